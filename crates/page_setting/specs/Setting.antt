-- Document 01, "Calls", and document 02, change 5: the program's input opens with a setting: a map byte (bit 0 width, bit 1 newline cost, bit 2 policy 1, bit 3 rule 2; the last two have no field),
-- then the fields. A field that is absent is 0, and the rule without its bit is 1; ill-formed is 3, cut short is 2.
use Rattle.std.specs.Prelude.{List, ℕ, ◌+◌, ◌/◌, ◌%◌}
use Rattle.file_fields.specs.declared.Step.{Step}
use Rattle.file_fields.specs.Fields.{got, byte_at, field_at, formed, bit}
use Rattle.page_setting.specs.declared.Setting.{Setting}

module _ (s : List ℕ) where
  unfoldable pub s_map : Step
  s_map = formed 15 (byte_at s (got 0 0))

  unfoldable pub s_width : Step
  s_width = field_at s (bit s_map.value 1) s_map

  unfoldable pub s_newline_cost : Step
  s_newline_cost = field_at s (bit s_map.value 2) s_width

  -- the setting, and the step after it: where the file starts, or the refusal
  unfoldable pub setting_at : Setting
  setting_at = record { width = s_width.value; newline_cost = s_newline_cost.value; policy = s_map.value / 4 % 2; rule = s_map.value / 8 % 2 + 1; next = s_newline_cost }
