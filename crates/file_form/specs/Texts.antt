-- The text records (document 01, "Prepared file"): a map byte of two bits, display width, byte length, then the text's bytes.
-- The lengths so far are tested at the length field, before the bytes.
use Rattle.std.specs.Prelude.{ℕ, zero, suc, ◌+◌, List, [], ◌∷◌, ◌++◌, length, take, drop, leb, eqb}
use Rattle.file_fields.specs.declared.Step.{Step}
use Rattle.file_fields.specs.Fields.{pick, got, refused, bit, byte_at, field_at, formed}
use Rattle.file_form.specs.declared.texts.Head.{Head}
use Rattle.file_form.specs.declared.texts.Run.{Run}

-- a length that keeps the running total within 65,536, or limit (4); after a refusal 0
unfoldable pub totalled : ℕ → Step → Step
totalled total f = pick (eqb f.fault 0) (pick (leb (total + f.value) 65536) f (refused 4 f.at)) (refused f.fault f.at)

-- as many bytes as the length, or short (2); after a refusal none
unfoldable pub span_at : List ℕ → Step → Step
span_at s l = pick (eqb l.fault 0) (pick (leb (l.at + l.value) (length s)) (got l.value (l.at + l.value)) (refused 2 l.at)) (refused l.fault l.at)

-- one record, where the lengths before it come to total
module _ (s : List ℕ) (total : ℕ) (p : Step) where
  unfoldable pub t_map : Step
  t_map = formed 3 (byte_at s p)

  unfoldable pub t_width : Step
  t_width = field_at s (bit t_map.value 1) t_map

  unfoldable pub t_length : Step
  t_length = totalled total (field_at s (bit t_map.value 2) t_width)

  unfoldable pub text_head : Head
  text_head = record { width = t_width.value; len = t_length }

  unfoldable pub t_end : Step
  t_end = span_at s t_length

  -- the text's row: display width, byte length, start
  unfoldable pub text_row : List ℕ
  text_row = t_width.value ∷ t_end.value ∷ total ∷ []

  -- the text's bytes
  unfoldable pub text_part : List ℕ
  text_part = take t_end.value (drop t_length.at s)

-- the running total and the step after the first k texts from the step p
unfoldable pub after_texts : List ℕ → Step → ℕ → Run
after_texts s p zero = record { total = 0; next = p }
after_texts s p (suc k) =
    record {
      total = (after_texts s p k).total + (t_end s (after_texts s p k).total (after_texts s p k).next).value;
      next = t_end s (after_texts s p k).total (after_texts s p k).next;
    }

-- the rows of the first k texts, and their bytes
unfoldable pub read_text_rows : List ℕ → Step → ℕ → List (List ℕ)
read_text_rows s p zero = []
read_text_rows s p (suc k) = read_text_rows s p k ++ (text_row s (after_texts s p k).total (after_texts s p k).next ∷ [])

unfoldable pub text_bytes : List ℕ → Step → ℕ → List ℕ
text_bytes s p zero = []
text_bytes s p (suc k) = text_bytes s p k ++ text_part s (after_texts s p k).total (after_texts s p k).next
