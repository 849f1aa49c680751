-- How the text of an answer is put out.
use Rattle.std.specs.Prelude.{ℕ, List, Option}
use Rattle.text_output.specs.declared.output.Output.{Output}
use Rattle.text_output.specs.Outputs.{stream_of}
use Rattle.blk_cli.specs.declared.Ended.{Ended}
use Rattle.blk_cli.specs.Said.{Said}
use Rattle.blk_cli.specs.Ends.{EndsPut}

-- a text was put out to writers, by what they hold
abbrev pub EndsPutOn : {W F : Type 0} → (W → Option (List ℕ)) → (F → Option (List ℕ)) → Said → Output W → Output W → Output F → Output F → Ended → Type 0
EndsPutOn held said s old new faults_old faults_new ended =
    EndsPut s (stream_of held old) (stream_of held new) (stream_of said faults_old) (stream_of said faults_new) ended
