-- Records that are passed over, and why; what the letters of a record say.
use Rattle.std.specs.Prelude.{ℕ, ◌+◌, ◌==◌, cond, nat_lt, Bool, List, [], ◌∷◌, Option, Some, None}
use Rattle.std.specs.List.{list_any}
use Rattle.blk_bio.specs.declared.bio.TheConstants.{MAX_END}
use Rattle.blk_bio.specs.declared.bio.Dir.{Dir}
use Rattle.blk_bio.specs.declared.bio.Dir.TheVariants as dir
use Rattle.blk_capture.specs.declared.record.Action.{Action}
use Rattle.blk_capture.specs.declared.record.Action.TheVariants as action
use Rattle.blk_capture.specs.declared.record.Op.{Op}
use Rattle.blk_capture.specs.declared.record.Op.TheVariants as op
use Rattle.blk_capture.specs.declared.record.PassReason.{PassReason}
use Rattle.blk_capture.specs.declared.record.PassReason.TheVariants as passed
use Rattle.blk_capture.specs.declared.record.Record.{Record}

-- the actions, numbered
abbrev pub place_of : Action → ℕ
place_of action.Queue = 0
place_of action.Get = 1
place_of action.BackMerge = 2
place_of action.FrontMerge = 3
place_of action.Insert = 4
place_of action.Issue = 5
place_of action.Complete = 6
place_of action.Requeue = 7
place_of action.Split = 8
place_of action.Plug = 9
place_of action.Unplug = 10
place_of action.Other = 11

-- the reasons, numbered
abbrev pub kind_place : PassReason → ℕ
kind_place passed.Plug = 0
kind_place passed.Unplug = 1
kind_place passed.Action = 2
kind_place passed.Discard = 3
kind_place passed.Erase = 4
kind_place passed.Flush = 5
kind_place passed.Nothing = 6
kind_place passed.Empty = 7
kind_place passed.PastEnd = 8

-- the action of a letter: Q, G, M, F, I, D, C, R, X, P, U
abbrev pub letter_action : ℕ → Action
letter_action c = cond (c == 81) action.Queue (cond (c == 71) action.Get (cond (c == 77) action.BackMerge (cond (c == 70) action.FrontMerge (cond (c == 73) action.Insert (cond (c == 68) action.Issue (cond (c == 67) action.Complete (cond (c == 82) action.Requeue (cond (c == 88) action.Split (cond (c == 80) action.Plug (cond (c == 85) action.Unplug action.Other))))))))))

-- an action has one letter
abbrev pub action_by : List ℕ → Action
action_by [] = action.Other
action_by (c ∷ []) = letter_action c
action_by (c ∷ d ∷ more) = action.Other

-- which way data goes
abbrev pub dir_of_op : Op → Option Dir
dir_of_op op.Read = Some dir.Read
dir_of_op op.Write = Some dir.Write
dir_of_op op.Discard = None
dir_of_op op.Erase = None
dir_of_op op.Flush = None
dir_of_op op.Nothing = None

-- the first of these letters that stands among them: W, R, E, D, F
abbrev pub has : ℕ → List ℕ → Bool
has letter rwbs = list_any (λ c. c == letter) rwbs

abbrev pub op_by : List ℕ → Op
op_by rwbs = cond (has 87 rwbs) op.Write (cond (has 82 rwbs) op.Read (cond (has 69 rwbs) op.Erase (cond (has 68 rwbs) op.Discard (cond (has 70 rwbs) op.Flush op.Nothing))))

-- an action without a rule
abbrev pub passed_action : Action → Option PassReason
passed_action action.Plug = Some passed.Plug
passed_action action.Unplug = Some passed.Unplug
passed_action action.Other = Some passed.Action
passed_action _ = None

-- what moves no data
abbrev pub passed_op : Op → Option PassReason
passed_op op.Read = None
passed_op op.Write = None
passed_op op.Discard = Some passed.Discard
passed_op op.Erase = Some passed.Erase
passed_op op.Flush = Some passed.Flush
passed_op op.Nothing = Some passed.Nothing

-- no sectors, or some past the last one
abbrev pub passed_range : ℕ → ℕ → Option PassReason
passed_range first sectors = cond (sectors == 0) (Some passed.Empty) (cond (nat_lt MAX_END (first + sectors)) (Some passed.PastEnd) None)

abbrev pub or_else : {X : Type 0} → Option X → Option X → Option X
or_else (Some x) other = Some x
or_else None other = other

-- why a record is passed over, if it is: the first reason
abbrev pub passed_over : Record → Option PassReason
passed_over r = or_else (passed_action r.action) (or_else (passed_op r.op) (passed_range r.first r.sectors))
