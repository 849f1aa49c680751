use Rattle.blk_trace_state.proofs.Standing.{released_test, issued_test, gone_test, open_test, used_test, bios_of_id, iff_not}
use Rattle.blk_trace_state.proofs.Projecting.{leaves, commands_are, rounds_are, waits_are, waiting_are, bios_are}
use Rattle.blk_trace_state.proofs.Reports.{requests_are, services_are, overdue_are}
use Rattle.blk_trace_state.specs.State.{is_out}
use Rattle.blk_trace_state.proofs.law_of_projections.Goals as goal

pub returns : goal.returns
returns c = record {
  commands = leaves _ (λ setup events s is st. commands_are setup events s st);
  rounds = leaves _ (λ setup events s is st. rounds_are setup events s st);
  issues = leaves _ (λ setup events s is st. st.issued_are);
  requests = leaves _ (λ setup events s is st. requests_are setup events s st);
  services = leaves _ (λ setup events s is st. services_are setup events s st);
  overdue = leaves _ (λ setup events s is st id. overdue_are setup events s st id);
  waits = leaves _ (λ setup events s is st id. waits_are setup events s st id);
  waiting = leaves _ (λ setup events s is st. waiting_are setup events s st);
  bios = leaves _ (λ setup events s is st. bios_are setup events s st);
  request = leaves _ (λ setup events s is st id. bios_of_id setup events s st id);
  flying = leaves _ (λ setup events s is st. st.open_is);
  done = leaves _ (λ setup events s is st. st.done_is);
  released = leaves _ (λ setup events s is st id. released_test setup events s st id);
  issued = leaves _ (λ setup events s is st id. issued_test setup events s st id);
  gone = leaves _ (λ setup events s is st id. iff_not (is_out s id) (gone_test setup events s st id));
  opened = leaves _ (λ setup events s is st tag. open_test setup events s st tag);
  used = leaves _ (λ setup events s is st tag. used_test setup events s st tag);
}
