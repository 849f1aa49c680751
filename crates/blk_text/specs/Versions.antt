-- The versions of scripts and of traces.
use Rattle.std.specs.Prelude.{ℕ, suc}
use Rattle.edd_commands.specs.declared.steps.TheConstants.{MAX_DEPTH}
use Rattle.blk_text.specs.declared.setup.TheConstants.{MAX_DEPTH_1}

-- the most tags that a title may have in a version: more from the second one on
abbrev pub most_tags : ℕ → ℕ
most_tags (suc (suc _)) = MAX_DEPTH
most_tags _ = MAX_DEPTH_1
