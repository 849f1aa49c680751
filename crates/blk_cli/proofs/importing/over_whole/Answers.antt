use Rattle.std.proofs.Common.{rules, refl, inl, inr, ◌≡◌, ◌⊎◌, ℕ, Bool, List, Option, subst}
use Rattle.std.specs.Prelude.{IfSome}
use Rattle.blk_capture_text.specs.Source.{IsCaptureRead}
use Rattle.blk_capture_text.specs.declared.source.CaptureRead.{CaptureRead}
use Rattle.blk_args.specs.declared.words.Import.{Import}
use Rattle.blk_args.specs.declared.words.Kept.{Kept}
use Rattle.blk_cli.specs.Importing.{IsImportInputFailure, IsReadCaptureFailure}
use Rattle.blk_cli.specs.declared.failure.Failure.{Failure}
use Rattle.blk_cli.specs.declared.failure.Failure.TheVariants as failure
use Rattle.blk_cli.proofs.importing.over_whole.Goals as goal

-- why nothing is written of a capture that was read, of the bytes that it was read of
unwritten : (k : Kept) (words : List (List ℕ)) (i : Import) (input : Option (List ℕ)) (failed : Bool) (bytes : List ℕ) (read : CaptureRead) (f : Failure)
    → IfSome input (λ known. bytes ≡ known) → IsCaptureRead i.source.form i.source.device bytes read → IsReadCaptureFailure k words i read f
    → (x : Failure) × IsImportInputFailure k words i input failed x × ((f ≡ x) ⊎ (f ≡ failure.Memory))
unwritten k words i input failed bytes read f given is_read (inl refused) =
    (f, inr (record { bytes = bytes; given = given; of = inr (record { read = read; is_read = is_read; refused = refused }) }), inl refl)
unwritten k words i input failed bytes read f given is_read (inr memory) = (failure.Memory, inl tt, inr memory)

pub returns-in-Err-clause-fails : goal.returns-in-Err-clause-fails
returns-in-Err-clause-fails g c = (failure.Text c.fault.result, inl (search rules), inl refl)

pub returns-in-Ok-over_read-clause-answers : goal.returns-in-Ok-over_read-clause-answers
returns-in-Ok-over_read-clause-answers g c = record {
  bytes = c.in-Ok.bytes.items;
  given = c.in-Ok.ensures.bytes;
  of = record {
    read = c.in-Ok-read_source.read;
    is_read = rw c.as_slice.ensures.value at c.in-Ok-read_source.ensures.ok;
    written = c.in-Ok-over_read.ensures.answers;
  };
}

pub returns-clause-fails : goal.returns-clause-fails
returns-clause-fails g c =
    unwritten c.args.kept _ c.args.wanted _ _ c.in-Ok.bytes.items c.in-Ok-read_source.read c.in-Err-over_read.failure c.in-Ok.ensures.bytes
    (rw c.as_slice.ensures.value at c.in-Ok-read_source.ensures.ok) c.in-Err-over_read.ensures.fails

pub returns-in-Err-read_source-clause-fails : goal.returns-in-Err-read_source-clause-fails
returns-in-Err-read_source-clause-fails g c = (
  failure.Unread c.in-Err-read_source.fault,
  inr (record {
    bytes = c.in-Ok.bytes.items;
    given = c.in-Ok.ensures.bytes;
    of = inl (rw c.as_slice.ensures.value at c.in-Err-read_source.ensures.err);
  }),
  c.untaken.ensures,
)
