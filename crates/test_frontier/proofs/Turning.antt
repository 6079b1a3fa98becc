-- The run's state through a turn.
use Rattle.std.proofs.Common.{◌≡◌, ℕ, List, sym, subst}
use Rattle.frontier.specs.Kept.{Frontier}
use Rattle.test_frontier.specs.declared.State.{State}
use Rattle.test_frontier.specs.Runs.{Ready, Kept}

pub still : {m n : List ℕ} {s r : State} → Ready m s → n ≡ m → Kept s r → Ready n r
still {m} {n} {s} {r} p e k = record { frontier = subst (λ z. Frontier n 6 z) (sym k.builder_is) (subst (λ z. Frontier z 6 s.builder) (sym e) p.frontier); few = k.few }
