use Rattle.std.proofs.Common.{◌-◌}
use Rattle.records.proofs.Pass.{Holds}
use Rattle.records.proofs.write_records.Given as goal

abbrev pub invariant-loop-w : goal.invariant-loop-w
invariant-loop-w l =
    Holds l.capacity l.chosen l.plans l.texts l.bytes
    (record { walk = l.fn.start; visit = l.fn.visit; depth = l.fn.depth; output = l.fn.output; stats = l.fn.stats; spans = l.fn.spans })
    (record { walk = l.w; visit = l.visit; depth = l.depth; output = l.output; stats = l.stats; spans = l.spans })

abbrev pub decreases-loop-w : goal.decreases-loop-w
decreases-loop-w l = l.capacity.visit_limit - l.w.visits
