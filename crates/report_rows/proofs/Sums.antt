-- Laws for the loops that sum over rows.
use mathlib.Core.Path.{◌≡◌, refl, sym}
use mathlib.Core.List.{List, []}
use Prim.Native.Nat.{ℕ, ◌+◌, ◌≤◌, ◌<◌}
use native.Mathlib.Omega.{arith}
use lib.ListN.{length, get_or, take}
use Rattle.report.specs.Memory.{Words, file_length, page_length, span_count, sum_of}
use Rattle.report_rows.specs.Sums.{Totalled, EntryIs}
use Rattle.report_rows.specs.SumLaws.{sum_nil, sum_next, sum_prefix}
use Rattle.report_rows.specs.declared.Totals.{Totals}
use Rattle.report_rows.specs.declared.Entry.{Entry}

abbrev pub sums : ℕ → ℕ → ℕ → Totals
sums f p m = record { files = f; pages = p; marks = m }

pub none_yet : Totalled [] (sums 0 0 0)
none_yet = record { files_are = sym (sum_nil file_length); pages_are = sym (sum_nil page_length); marks_are = sym (sum_nil span_count) }

-- one row more
pub turn : (t : List Words) (i f p m : ℕ) (e : Entry) → i < length t → Totalled (take i t) (sums f p m) → EntryIs (get_or t i []) e → Totalled (take (i + 1) t) (sums (f + e.file) (p + e.page) (m + e.spans))
turn t i f p m e h s r = record {
  files_are = omega (arith, s.files_are, r.file_is, sum_next file_length t i h);
  pages_are = omega (arith, s.pages_are, r.page_is, sum_next page_length t i h);
  marks_are = omega (arith, s.marks_are, r.spans_are, sum_next span_count t i h);
}

-- a sum that takes one row more is at most the sum of all
pub so_far : (g : Words → ℕ) (t : List Words) (i n s x : ℕ) → i < n → n ≤ length t → s ≡ sum_of g (take i t) → x ≡ g (get_or t i []) → s + x ≤ sum_of g (take n t)
so_far g t i n s x h k e f = omega (arith, sum_next g t i (omega arith), sum_prefix g (i + 1) n t (omega arith))

-- what is left of stores of these lengths after the rows t
pub record Left (t : List Words) (files pages marks : ℕ) (left : Totals) : Type 0 where
  pub files_left : left.files + sum_of file_length t ≡ files
  pub pages_left : left.pages + sum_of page_length t ≡ pages
  pub marks_left : left.marks + sum_of span_count t ≡ marks

pub all_left : (files pages marks : ℕ) → Left [] files pages marks (sums files pages marks)
all_left files pages marks = record {
  files_left = omega (arith, sum_nil file_length);
  pages_left = omega (arith, sum_nil page_length);
  marks_left = omega (arith, sum_nil span_count);
}

-- so a row that takes more than what is left is told at once
pub too_many : (g : Words → ℕ) (t : List Words) (i n left x limit : ℕ) → i < n → n ≤ length t → left + sum_of g (take i t) ≡ limit → x ≡ g (get_or t i []) → left < x → sum_of g (take n t) ≤ limit → ⊥
too_many g t i n left x limit h k e f p q = let l = so_far g t i n (sum_of g (take i t)) x h k refl f in omega arith
