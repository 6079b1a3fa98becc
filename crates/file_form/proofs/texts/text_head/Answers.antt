use Rattle.file_form.specs.Texts.{text_head, t_map, t_width, t_length}
use Rattle.file_form.proofs.texts.text_head.Goals as goal

pub returns : goal.returns
unfolding text_head t_map t_width t_length
returns c = rw (c.totalled-len.ensures, c.field_at.ensures, c.field_at-width.ensures, c.formed-map.ensures, c.byte_at.ensures)
