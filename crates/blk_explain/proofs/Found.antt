-- What a reader finds.
use Rattle.std.proofs.Common.{◌≡◌, List, Option, Some}
use Rattle.std.specs.Prelude.{IfSome, IfOk, Result, Ok, Err}
use Rattle.blk_records.specs.Sources.{Row}
use Rattle.blk_explain.specs.Forms.{form_name}
use Rattle.blk_explain.specs.Findings.{name_in, IsFound}
use Rattle.blk_explain.specs.Inside.Read.{IsRead}
use Rattle.blk_explain.specs.declared.forms.TextForm.{TextForm}
use Rattle.blk_explain.specs.declared.findings.Finding.{Finding}
use Rattle.blk_explain.specs.declared.findings.Finding.TheVariants as finding

-- what is known of the rows that are left
pub known : (P : List Row → Type 0) (left : Option (List Row)) (rows : List Row) → left ≡ Some rows → IfSome left P → P rows
known P left rows e h = rw e at h

-- what is known where an answer is good
pub ok_map : {A E : Type 0} (P Q : A → Type 0) (r : Result A E) → ((a : A) → P a → Q a) → IfOk r P → IfOk r Q
ok_map P Q (Ok a) f h = f a h
ok_map P Q (Err e) f h = tt

-- what the reader of the form finds that a text begins with the name of is found in the text
pub found_as : (form : TextForm) (rows : List Row) → name_in rows ≡ form_name form → (f : Finding) → IsRead form rows f → IsFound rows f
found_as form rows e finding.Untitled r = absurd r
found_as form rows e (finding.Good g) r = rw r.0 (e, r.1)
found_as form rows e (finding.Faulty g t) r = rw r.0 (e, r.1)
