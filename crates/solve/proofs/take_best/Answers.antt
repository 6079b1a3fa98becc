use Rattle.solve.proofs.Starts.{popped_len, best_is}
use mathlib.Core.List.{[]}
use mathlib.Core.Path.{refl}
use native.Mathlib.Omega.{arith}
use Rattle.solve.proofs.take_best.Goals as goal

pub needs_of-needs-requires : goal.needs_of-needs-requires
needs_of-needs-requires c = c.requires.needs_fit

pub pop_exact_result-requires : goal.pop_exact_result-requires
pop_exact_result-requires c = (omega (arith, c.requires.some), c.requires.lent)

pub least_candidate-best-requires : goal.least_candidate-best-requires
least_candidate-best-requires c = ((popped_len c.args.g.now c.pop_exact_result.new.g c.args.results.now c.args.kept.now c.requires (c.pop_exact_result.ensures.is [] [] [] c.args.kept.now [] [])), omega (arith, c.pop_exact_result.ensures.popped.kept, c.requires.kept))

pub returns : goal.returns
returns c = rw c.stats_of.ensures (record { meets = λ b R P ts ps es fs ns. best_is b R P c.args.g.now c.pop_exact_result.new.g ts c.args.results.now ps es c.args.kept.now fs ns c.least_candidate-best.result (c.pop_exact_result.ensures.is ts ps es c.args.kept.now fs ns) c.pop_exact_result.ensures.popped (popped_len c.args.g.now c.pop_exact_result.new.g c.args.results.now c.args.kept.now c.requires (c.pop_exact_result.ensures.is [] [] [] c.args.kept.now [] [])) c.least_candidate-best.ensures _ c.needs_of-needs.ensures c.requires.needs_fit; plans = c.pop_exact_result.ensures.popped.plans; no_fit_checks = refl })
