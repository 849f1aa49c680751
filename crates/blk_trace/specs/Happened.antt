-- What can happen in a block layer: the events of the code, each request in them as the list of its bios.
use Rattle.std.specs.Prelude.{ℕ, zero, suc, ◌≡◌, List, [], refl}
use Rattle.std.specs.Coded.{Coded, code_by, coded×, coded_ℕ, coded_list}
use Rattle.blk_bio.specs.Bios.{Bio}
use Rattle.blk_bio.specs.Codes.{bio_code}
use Rattle.blk_trace.specs.declared.event.Event.{Event}
pub use Rattle.blk_trace.specs.declared.event.Event.TheVariants.{Tick, Release, Join, Issue, Done, Back, Depth}

abbrev pub Happened : Type 0
Happened = Event (List Bio)

-- as a kind, an id, a tag and bios
abbrev pub as_number : Happened → ℕ × (ℕ × (ℕ × List Bio))
as_number Tick = (0, (0, (0, [])))
as_number (Release id bios) = (1, (id, (0, bios)))
as_number (Join id bios) = (2, (id, (0, bios)))
as_number (Issue id tag) = (3, (id, (tag, [])))
as_number (Done tag) = (4, (0, (tag, [])))
as_number (Back tag) = (5, (0, (tag, [])))
as_number (Depth depth) = (6, (0, (depth, [])))

abbrev pub by_kind : ℕ → ℕ → ℕ → List Bio → Happened
by_kind zero id tag bios = Tick
by_kind (suc zero) id tag bios = Release id bios
by_kind (suc (suc zero)) id tag bios = Join id bios
by_kind (suc (suc (suc zero))) id tag bios = Issue id tag
by_kind (suc (suc (suc (suc zero)))) id tag bios = Done tag
by_kind (suc (suc (suc (suc (suc zero))))) id tag bios = Back tag
by_kind _ id tag bios = Depth tag

pub as_number_back : (h : Happened) → by_kind (as_number h).0 (as_number h).1.0 (as_number h).1.1.0 (as_number h).1.1.1 ≡ h
as_number_back Tick = refl
as_number_back (Release id bios) = refl
as_number_back (Join id bios) = refl
as_number_back (Issue id tag) = refl
as_number_back (Done tag) = refl
as_number_back (Back tag) = refl
as_number_back (Depth depth) = refl

abbrev pub happened_code : Coded Happened
happened_code = code_by (ℕ × (ℕ × (ℕ × List Bio))) (coded× coded_ℕ (coded× coded_ℕ (coded× coded_ℕ (coded_list bio_code)))) as_number (λ p. by_kind p.0 p.1.0 p.1.1.0 p.1.1.1) as_number_back
