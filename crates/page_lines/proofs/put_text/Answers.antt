use mathlib.Core.Path.{refl, sym, ◌∙◌}
use mathlib.Core.List.{[], append-nil}
use native.Mathlib.Omega.{arith}
use Rattle.page_lines.proofs.Laws.{part_put}
use Rattle.page_lines.proofs.put_text.Goals as goal

pub returns : goal.returns
returns c = part_put _ _ _ [] _ _ _ (omega arith) (c.copy_from_slice.ensures.after ∙ sym (append-nil c.args.text.now)) refl
