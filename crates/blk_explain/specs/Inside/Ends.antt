-- Ends of lines.
use Rattle.csv.specs.declared.parser.State.{State}
use Rattle.blk_explain.specs.declared.lines.ReadState.{ReadState}
use Rattle.csv.specs.declared.parser.State.TheVariants as st
use Rattle.blk_explain.specs.declared.lines.ReadState.TheVariants as read

-- the state of the machine that reads records
abbrev pub line_state : ReadState → State
line_state read.Between = st.StartRecord
line_state read.Returned = st.AfterCr
line_state read.Start = st.StartField
line_state read.Inside = st.InField
line_state read.Quoted = st.InQuoted
line_state read.Quote = st.AfterQuote
