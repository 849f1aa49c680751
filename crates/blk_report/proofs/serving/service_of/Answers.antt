use Rattle.std.proofs.Common.{◌≡◌, ◌+◌, ◌∙◌, ℕ, Bool, ap, arith}
use Rattle.blk_bio.specs.declared.bio.Dir.{Dir}
use Rattle.blk_bio.specs.Requests.{first_of, last_of, sectors_of}
use Rattle.blk_bio.proofs.Tiles.{fills}
use Rattle.blk_trace.specs.declared.known.Entry.{Entry}
use Rattle.blk_trace.specs.declared.issued.Issued.{Issued}
use Rattle.blk_trace.specs.Events.{request_of}
use Rattle.blk_trace.specs.Issues.{was_requeued}
use Rattle.blk_report.specs.declared.serving.Service.{Service}
use Rattle.blk_report.proofs.serving.service_of.Goals as goal

pub unreachable-requires : goal.unreachable-requires
unreachable-requires g c = c.in_default.ensures.none (c.in_default.ensures.issued c.requires)

pub returns : goal.returns
returns g c =
    let t = c.args.trace.now in
    let i : Issued = c.args.issue.now in
    let p = c.in-Some.ensures.some in
    let e : Entry = c.in-Some.entry in
    let bios = request_of t.events i.id in
    let whole : first_of bios + sectors_of bios ≡ last_of bios = fills bios (c.in-Some.ensures.is_request p.0) in
    let sectors : c.sectors.result ≡ sectors_of bios = omega (arith, c.sectors.ensures.value, ap (λ (x : Entry). x.extent.end) p.1, ap (λ (x : Entry). x.extent.first) p.1) in
    let made : Dir → ℕ → ℕ → Entry → Bool → Service = λ d f n x b. record { id = i.id; dir = d; first = f; sectors = n; release = x.release; due = x.due; issue = i.round; tag = i.tag; back = b } in
    ap (λ d. made d c.first.result c.sectors.result e c.was_requeued.result) c.dir.ensures
    ∙ ap (λ f. made e.extent.dir f c.sectors.result e c.was_requeued.result) c.first.ensures.value
    ∙ ap (λ n. made e.extent.dir e.extent.first n e c.was_requeued.result) sectors
    ∙ ap (λ b. made e.extent.dir e.extent.first (sectors_of bios) e b) c.was_requeued.ensures
    ∙ ap (λ (x : Entry). made x.extent.dir x.extent.first (sectors_of bios) x (was_requeued i.outcome)) p.1
