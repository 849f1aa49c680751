-- What callers see of a layer and of its seats, and why a layer is not made.
use Rattle.std.specs.Prelude.{ℕ, ◌≡◌, ◌<◌, ◌↔◌, List, [], Option, None, Some, All, Contains, length, map, replicate, slice_get, ◌≤◌, ◌⊎◌, ◌∷◌}
use Rattle.edd_commands.specs.declared.Command.{Command}
use Rattle.blk_bio.specs.Bios.{Bio}
use Rattle.blk_tags.specs.Tags.{Set}
use Rattle.blk_bio.specs.declared.limits.TheConstants.{MAX_SOFT_DEPTH}
use Rattle.blk_queues.specs.Maps.{IsHwCount}
use Rattle.blk_layer.specs.declared.layer.TheConstants.{MAX_WORKERS}
use Rattle.blk_layer.specs.declared.layer.LayerFault.{LayerFault}
use Rattle.blk_layer.specs.declared.layer.LayerFault.TheVariants.{Queues, SoftDepth, Workers, WorkerQueue, Memory}
use Rattle.edd_commands.specs.Order.{BreaksFirst}

-- what of a layer never changes: the hardware queue of each software queue, how many workers there are, and its tags
pub record LayerShape : Type 0 where
  pub map : List ℕ
  pub workers : ℕ
  pub tag_set : Set

-- a submitter: the number of its software queue, and its bios that were accepted, in that order
pub record SubmitterSeat : Type 0 where
  pub number : ℕ
  pub accepted : List Bio

-- these bios are all of the submitter
abbrev pub AreOwn : ℕ → List Bio → Type 0
AreOwn number bios = All (λ b. b.id.submitter ≡ number) bios

-- the submitter of a software queue before the first bio
abbrev pub new_submitter : ℕ → SubmitterSeat
new_submitter number = record { number = number; accepted = [] }

-- a worker: the set of its tags, the hardware queue that it works for, the tags that it holds, by tag the commands in its
-- hands, and the commands that it reported done, in that order
pub record WorkerSeat : Type 0 where
  pub tag_set : Set
  pub hw : ℕ
  pub tags : List ℕ
  pub hands : List (Option Command)
  pub ran : List Command

-- the tags that a worker holds are those of the commands in its hands
abbrev pub HoldsItsTags : WorkerSeat → Type 0
HoldsItsTags worker = (tag : ℕ) → Contains worker.tags tag ↔ ((command : Command) × (slice_get worker.hands tag ≡ Some (Some command)))

-- the worker of a hardware queue before the first command
abbrev pub new_worker : Set → ℕ → WorkerSeat
new_worker set hw = record { tag_set = set; hw = hw; tags = []; hands = replicate set.depth None; ran = [] }

-- a new layer with its seats: a submitter for each software queue, and a worker for each hardware queue that was handed in
pub record IsNewLayer (depth : ℕ) (map_in queues : List ℕ) (layer : LayerShape) (submitters : List SubmitterSeat) (workers : List WorkerSeat) : Type 0 where
  pub map_is : layer.map ≡ map_in
  pub count_is : layer.workers ≡ length queues
  pub depth_is : layer.tag_set.depth ≡ depth
  pub submitter_count : length submitters ≡ length map_in
  pub each_submitter : (k : ℕ) → k < length map_in → slice_get submitters k ≡ Some (new_submitter k)
  pub each_worker : workers ≡ map (new_worker layer.tag_set) queues

-- a layer that can be made for hw hardware queues: the map names just these, and the software queues have a depth that one
-- may have; there are workers, no more than may be, and each works for one of these
pub record CanMake (hw : ℕ) (map : List ℕ) (soft_depth : ℕ) (queues : List ℕ) : Type 0 where
  pub named : IsHwCount map hw
  pub some_depth : 1 ≤ soft_depth
  pub few_depth : soft_depth ≤ MAX_SOFT_DEPTH
  pub some_workers : 0 < length queues
  pub few_workers : length queues ≤ MAX_WORKERS
  pub in_range : All (λ queue. queue < hw) queues

-- of the workers' hardware queues, the first that isn't there stands at the place
pub record IsFirstOutside (hw : ℕ) (queues : List ℕ) (place : ℕ) : Type 0 where
  pub queue : ℕ
  pub stands : slice_get queues place ≡ Some queue
  pub outside : hw ≤ queue
  pub first : (k earlier : ℕ) → k < place → slice_get queues k ≡ Some earlier → earlier < hw

-- the rules of a new layer, in the order in which they are looked at
abbrev pub layer_rules : ℕ → List ℕ → ℕ → List ℕ → List (Type 0)
layer_rules hw map soft_depth queues =
    IsHwCount map hw
    ∷ ((1 ≤ soft_depth) × (soft_depth ≤ MAX_SOFT_DEPTH))
    ∷ ((0 < length queues) × (length queues ≤ MAX_WORKERS))
    ∷ All (λ queue. queue < hw) queues ∷ []

-- what each fault of a new layer says
abbrev pub IsLayerFault : ℕ → List ℕ → ℕ → List ℕ → LayerFault → Type 0
IsLayerFault hw map soft_depth queues Queues = BreaksFirst (layer_rules hw map soft_depth queues) 0 (¬ IsHwCount map hw)
IsLayerFault hw map soft_depth queues SoftDepth =
    BreaksFirst (layer_rules hw map soft_depth queues) 1 ((soft_depth ≡ 0) ⊎ (MAX_SOFT_DEPTH < soft_depth))
IsLayerFault hw map soft_depth queues Workers =
    BreaksFirst (layer_rules hw map soft_depth queues) 2 ((length queues ≡ 0) ⊎ (MAX_WORKERS < length queues))
IsLayerFault hw map soft_depth queues (WorkerQueue worker) =
    BreaksFirst (layer_rules hw map soft_depth queues) 3 (IsFirstOutside hw queues worker)
IsLayerFault hw map soft_depth queues Memory = CanMake hw map soft_depth queues
