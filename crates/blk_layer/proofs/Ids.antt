-- Accounts of bios, whose ids stand once.
use Rattle.std.proofs.Common.{◌≡◌, ◌∙◌, ◌↔◌, IsTrue, sym, ap, Bool, List, ◌++◌}
use Rattle.std.specs.Prelude.{◌||◌}
use Rattle.std.proofs.lemmas.List.Folds.{list_any-append}
use Rattle.blk_bio.specs.Bios.{Bio}
use Rattle.blk_bio.specs.declared.bio.BioId.{BioId}
use Rattle.blk_trace.specs.Events.{AreOnce, HasId}
use Rattle.blk_trace.specs.Inside.Kept.{is_bio, has_bio_id}
use Rattle.blk_trace.proofs.Newness.{at_has, has_at}
use Rattle.blk_layer.specs.Inside.Seats.{IsAccount}

-- whether an id is among the ids of an account
pub has_id : (bios : List Bio) (id : BioId) (r : Bool) → r ≡ has_bio_id bios id → IsTrue r ↔ HasId bios id
has_id bios id r e = (λ yes. at_has bios id (sym e ∙ yes), λ h. e ∙ has_at bios h.0 h.1.0 id h.1.1 h.1.2)

-- an account whose ids are kept in another order
pub same_account : (bios new : List Bio) (ids others : BioId → Bool) → IsAccount bios ids → new ≡ bios → ((id : BioId) → others id ≡ ids id) → IsAccount new others
same_account bios new ids others a e same = rw e (record { once = a.once; ids_are = λ id. same id ∙ a.ids_are id })

-- an account to which bios were added
pub more_account : (bios more new : List Bio) (ids room others : BioId → Bool) → IsAccount bios ids → AreOnce (bios ++ more) → new ≡ bios ++ more
    → ((id : BioId) → room id ≡ ids id) → ((id : BioId) → others id ≡ (room id || has_bio_id more id)) → IsAccount new others
more_account bios more new ids room others a once e same added = rw e (record {
  once = once;
  ids_are = λ id. added id ∙ ap (λ b. b || has_bio_id more id) (same id ∙ a.ids_are id) ∙ sym (list_any-append (λ (b : Bio). is_bio b.id id) bios more);
})
