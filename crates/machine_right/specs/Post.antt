-- What holds at the end of a program that never comes to what the Rust says cannot be.
use Rattle.machine.specs.Events.{Prog, ret, emit, ◌>>=◌}
use Rattle.machine.specs.Events.{Event, Need, Within, Hit, Miss, Generated, Visit, Pruned, Peak, Entries, PlanNodes, Never}
use Rattle.machine.specs.Programs.{value}

abbrev pub Can : Event → Type 0
Can (Need x n) = Unit {0}
Can (Within r n) = Unit {0}
Can Hit = Unit {0}
Can Miss = Unit {0}
Can Generated = Unit {0}
Can Visit = Unit {0}
Can (Pruned n) = Unit {0}
Can (Peak n) = Unit {0}
Can (Entries n) = Unit {0}
Can (PlanNodes n) = Unit {0}
Can Never = ⊥

pub data Post {A : Type 0} (Q : A → Type 0) : Prog A → Type 0 where
  holds_of : {a : A} → Q a → Post Q (ret a)
  says : {e : Event} {p : Prog A} → Can e → Post Q p → Post Q (emit e p)

pub post_bind : {A B : Type 0} {f : A → Prog B} {Q : B → Type 0} {m : Prog A} → Post (λ a. Post Q (f a)) m → Post Q (m >>= f)
post_bind (holds_of h) = h
post_bind (says o h) = says o (post_bind h)

pub post_value : {A : Type 0} {Q : A → Type 0} {m : Prog A} → Post Q m → Q (value m)
post_value (holds_of h) = h
post_value (says o h) = post_value h

pub post_imp : {A : Type 0} {Q W : A → Type 0} {m : Prog A} → ((a : A) → Q a → W a) → Post Q m → Post W m
post_imp f (holds_of h) = holds_of (f _ h)
post_imp f (says o h) = says o (post_imp f h)
