-- How a picture is laid out.
use Rattle.std.specs.Prelude.{ℕ, Bool, true, false, ◌≡◌, ◌≤◌, ◌<◌, ◌+◌, ◌-◌, ◌/◌, ◌==◌, ◌||◌, not, cond, nat_lt, max, min, count_by, slice_index_or}
use Rattle.std.specs.List.{list_any}
use Rattle.blk_picture.specs.declared.scale.Scale.{Scale}
use Rattle.blk_picture.specs.declared.scale.TheConstants.{MAX_COLUMN_WIDE, MAX_COLUMNS, MAX_SHOWN, MAX_TAG_TALL, MAX_TALL, MAX_WIDE, MIN_TAG_TALL}

-- how many rounds a column stands for where none is cut, so that there are at most `MAX_COLUMNS`
unfoldable pub per_of : ℕ → ℕ
per_of rounds = max ((rounds + (MAX_COLUMNS - 1)) / MAX_COLUMNS) 1

-- how many columns stand for all rounds
unfoldable pub columns_by : ℕ → ℕ → ℕ
columns_by rounds per = max ((rounds + (per - 1)) / per) 1

-- a column and a tag are no larger than they may be, and the columns that are drawn no wider together
unfoldable pub wide_of : ℕ → ℕ
wide_of drawn = min (MAX_WIDE / max drawn 1) MAX_COLUMN_WIDE

unfoldable pub tall_of : ℕ → ℕ
tall_of deep = min (max (MAX_TALL / max deep 1) MIN_TAG_TALL) MAX_TAG_TALL

-- how many of the columns that are drawn come before one
unfoldable pub shown_before : Scale → ℕ → ℕ
shown_before s c = count_by (λ k. nat_lt k c) s.shown

-- where a column is drawn, or would be, whether it is, and which is drawn at a place
unfoldable pub drawn_place : Scale → ℕ → ℕ
drawn_place s c = cond s.cut (shown_before s c) c

unfoldable pub shows : Scale → ℕ → Bool
shows s c = not s.cut || list_any (λ k. k == c) s.shown

unfoldable pub shown_at : Scale → ℕ → ℕ
shown_at s place = cond s.cut (slice_index_or s.shown place 0) place

-- a scale of a number of rounds and tags: its columns stand for all rounds; all are drawn, of as many rounds as make at most `MAX_COLUMNS`, or some
-- of more than these
pub record IsScaled (rounds deep : ℕ) (s : Scale) : Type 0 where
  pub rounds_are : s.rounds ≡ rounds
  pub some : 0 < s.per
  pub columns_are : s.columns ≡ columns_by rounds s.per
  pub whole : s.cut ≡ false → (s.per ≡ per_of rounds) × (s.drawn ≡ s.columns)
  pub many : s.cut ≡ true → MAX_COLUMNS < rounds
  pub few : s.cut ≡ true → s.drawn ≤ MAX_SHOWN
  pub wide_is : s.wide ≡ wide_of s.drawn
  pub deep_is : s.deep ≡ deep
  pub tall_is : s.tall ≡ tall_of deep
