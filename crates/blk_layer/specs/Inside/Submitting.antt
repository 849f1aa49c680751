-- How the first request of a plug gets into a software queue.
use Rattle.std.specs.Prelude.{ℕ, ◌≡◌, ◌+◌, ⊤, length, List, Some, slice_get, ◌∷◌}
use Rattle.blk_bio.specs.Bios.{Bio}
use Rattle.blk_queues.specs.Plugs.{Plug, bios_plugged}
use Rattle.blk_queues.specs.Queues.{Queue, with_last}
use Rattle.blk_layer.specs.declared.submitting.FlushReason.{FlushReason}
use Rattle.blk_layer.specs.declared.submitting.FlushReason.TheVariants.{Foreign, Repeated, SoftFull, Memory}

-- a reason that the bios themselves give, whatever room there is
abbrev pub IsOfBios : FlushReason → Type 0
IsOfBios (Foreign id) = ⊤
IsOfBios (Repeated id) = ⊤
IsOfBios SoftFull = ⊥
IsOfBios Memory = ⊥

-- how many bios came into a software queue, and are in a plug yet
abbrev pub bios_of_both : Queue → Plug → ℕ
bios_of_both queue plug = queue.bios_in + length (bios_plugged plug)

-- a plug loses its first request, and a software queue gets it at the back
abbrev pub LosesFirst : Plug → Plug → Type 0
LosesFirst plug new =
    (first : List Bio) → slice_get plug.requests 0 ≡ Some first → plug ≡ record { limits = new.limits; requests = first ∷ new.requests }

abbrev pub GetsFirst : Queue → Plug → Queue → Type 0
GetsFirst queue plug new = (first : List Bio) → slice_get plug.requests 0 ≡ Some first → new ≡ with_last queue first
