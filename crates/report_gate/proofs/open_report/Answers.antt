use Rattle.report_gate.specs.Heads.{opens, order}
use Rattle.report_gate.proofs.Gating.{empty_head, not_right}
use Rattle.report_gate.proofs.open_report.Goals as goal

pub returns-then-options_right : goal.returns-then-options_right
returns-then-options_right c = opens (empty_head c.args.width c.args.newline_cost c.args.policy c.args.rule c.options_of.ensures (c.options_right.ensures.yes c.if-options_right.true))

pub returns-else-options_right : goal.returns-else-options_right
returns-else-options_right c = order (not_right c.args.width c.args.newline_cost c.args.policy c.args.rule c.options_of.ensures (c.options_right.ensures.no c.if-options_right.false))
