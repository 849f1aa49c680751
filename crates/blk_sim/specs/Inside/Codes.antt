-- The codes of a simulation.
use Rattle.std.specs.Prelude.{ℕ, List, refl}
use Rattle.std.specs.Coded.{Coded, code_by, coded×, coded_ℕ, coded_list}
use Rattle.blk_bio.specs.Bios.{Bio}
use Rattle.blk_bio.specs.Limits.{Limits}
use Rattle.blk_bio.specs.Codes.{limits_code, bio_code}
use Rattle.blk_queues.specs.Plugs.{Plug}
use Rattle.blk_queues.specs.Queues.{Queue}
use Rattle.blk_core.specs.State.{CoreState, core_code}
use Rattle.blk_sim.specs.State.{SimState}

-- the codes of a plug, of a software queue and of a simulation
abbrev pub plug_code : Coded Plug
plug_code = code_by (Limits × List (List Bio)) (coded× limits_code (coded_list (coded_list bio_code))) (λ p. (p.limits, p.requests)) (λ p. record { limits = p.0; requests = p.1 }) (λ _. refl)

abbrev pub queue_code : Coded Queue
queue_code = code_by (ℕ × (Limits × (List (List Bio) × (ℕ × ℕ)))) (coded× coded_ℕ (coded× limits_code (coded× (coded_list (coded_list bio_code)) (coded× coded_ℕ coded_ℕ)))) (λ q. (q.depth, (q.limits, (q.requests, (q.bios_in, q.bios_out))))) (λ p. record { depth = p.0; limits = p.1.0; requests = p.1.1.0; bios_in = p.1.1.1.0; bios_out = p.1.1.1.1 }) (λ _. refl)

abbrev pub sim_code : Coded SimState
sim_code = code_by (List Plug × (List Queue × CoreState)) (coded× (coded_list plug_code) (coded× (coded_list queue_code) core_code)) (λ s. (s.plugs, (s.queues, s.core))) (λ p. record { plugs = p.0; queues = p.1.0; core = p.1.1 }) (λ _. refl)
