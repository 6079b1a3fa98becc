use Rattle.page_setting.specs.Setting.{setting_at, s_map, s_width, s_newline_cost}
use Rattle.page_setting.proofs.setting_at.Goals as goal

pub returns : goal.returns
unfolding setting_at s_map s_width s_newline_cost
returns c = rw (c.field_at-newline_cost.ensures, c.field_at-width.ensures, c.formed-map.ensures, c.byte_at.ensures)
