-- The settings and the tables of an accepted file, as the machine reads them: definitions of crates machine_input and file_tables, passed on.
use Rattle.std.specs.Prelude.{[], ℕ}
use Rattle.cost.specs.declared.PreparedConsumerCostModel.{PreparedConsumerCostModel}
use Rattle.layout.specs.Rules.{Rules, charging}
use Rattle.machine.specs.Model.{Prepared}
use Rattle.solve_workspace.specs.declared.RenderOptions.{RenderOptions}
pub use Rattle.file_tables.specs.Tables.{tables}
pub use Rattle.machine_input.specs.Reading.{edge_part, node_of_kind, choice_of_length, word_of_row, prepared}
unfoldable pub use Rattle.machine_input.specs.Reading.{node_of_row, choice_of_row}

-- tables of which only the space text's number is looked at
abbrev pub any_space : ℕ → Prepared
any_space n = prepared (tables [] [] [] [] [] 0 0 n)

abbrev pub rules : RenderOptions → Rules
rules o = charging o.rule o.width o.newline_cost o.policy

-- what costs depend on
abbrev pub cost_model : RenderOptions → PreparedConsumerCostModel
cost_model o = record { width = o.width; newline_cost = o.newline_cost; rule = o.rule }
