-- The list of layouts has the layouts that the document allows, and no other (`membership`, in proofs/Members); there is always one.
use Rattle.std.proofs.Math.Path.{refl}
use Rattle.std.proofs.Math.Logic.{⊎_elim}
use Rattle.std.specs.Prelude.{ℕ, ◌+◌}
use mathlib.Core.List.{map}
use mathlib.Core.List.Memᴰ.{append_cases as in_append}
use mathlib.Core.List.Memᴰ.{append_left as in_left}
use mathlib.Core.List.Memᴰ.{append_right as in_right}
use mathlib.Core.List.Memᴰ.{head as here}
use mathlib.Core.List.Memᴰ.{not-nil as not_in_nil}
use mathlib.Core.List.Memᴰ.{tail as there}
use mathlib.Core.List.{Memᴰ as In}
use Rattle.layout.specs.Document.{Doc, empty, text, newline, cat, nest, align, choice, annotate, penalty}
use Rattle.layout.specs.Rules.{Rules}
use Rattle.layout.specs.Layout.{Plan, blank, put, line, join, mark, fee, last}
use Rattle.layout.specs.Layout.{Allows, is_empty, is_text, is_newline, is_cat, is_nest, is_align, is_first, is_second, is_annotate, is_penalty}
use Rattle.layout.specs.Choice.{layouts}
use Rattle.layout.specs.Listed.{in_map, map_in, in_each, each_in}

module _ (R : Rules) where
  -- the list has the layouts that the document allows, and no other
  pub layouts_allowed : (d : Doc) (c i : ℕ) {p : Plan} → In p (layouts R d c i) → Allows R d c i p
  unfolding layouts
  layouts_allowed empty c i (here e) = rw e is_empty
  layouts_allowed empty c i (there m) = absurd (not_in_nil m)
  layouts_allowed (text t) c i (here e) = rw e is_text
  layouts_allowed (text t) c i (there m) = absurd (not_in_nil m)
  layouts_allowed newline c i (here e) = rw e is_newline
  layouts_allowed newline c i (there m) = absurd (not_in_nil m)
  layouts_allowed (cat a b) c i {p} m =
      let s = each_in (λ q. map (join q) (layouts R b (last q c) i)) (layouts R a c i) m in
      let t = map_in (join s.0) (layouts R b (last s.0 c) i) s.2 in
      rw t.2 (is_cat (layouts_allowed a c i s.1) (layouts_allowed b (last s.0 c) i t.1))
  layouts_allowed (nest n d) c i m = is_nest (layouts_allowed d c (R.lower (i + n)) m)
  layouts_allowed (align d) c i m = is_align (layouts_allowed d c (R.lower c) m)
  layouts_allowed (choice a b) c i {p} m = ⊎_elim (λ n. is_first (layouts_allowed a c i n)) (λ n. is_second (layouts_allowed b c i n)) (in_append (layouts R a c i) m)
  layouts_allowed (annotate k d) c i m = let t = map_in (mark k) (layouts R d c i) m in rw t.2 (is_annotate (layouts_allowed d c i t.1))
  layouts_allowed (penalty n d) c i m = let t = map_in (fee n) (layouts R d c i) m in rw t.2 (is_penalty (layouts_allowed d c i t.1))

  pub allowed_layouts : {d : Doc} {c i : ℕ} {p : Plan} → Allows R d c i p → In p (layouts R d c i)
  unfolding layouts
  allowed_layouts is_empty = here refl
  allowed_layouts is_text = here refl
  allowed_layouts is_newline = here refl
  allowed_layouts (is_cat {c} {i} {a} {b} {p} {q} m n) =
      in_each (λ z. map (join z) (layouts R b (last z c) i)) (allowed_layouts m) (in_map (join p) (allowed_layouts n))
  allowed_layouts (is_nest m) = allowed_layouts m
  allowed_layouts (is_align m) = allowed_layouts m
  allowed_layouts (is_first {c} {i} {a} {b} m) = in_left (layouts R b c i) (allowed_layouts m)
  allowed_layouts (is_second {c} {i} {a} {b} m) = in_right (layouts R a c i) (allowed_layouts m)
  allowed_layouts (is_annotate {k = k} m) = in_map (mark k) (allowed_layouts m)
  allowed_layouts (is_penalty {n = n} m) = in_map (fee n) (allowed_layouts m)

  -- the layout of all first choices
  abbrev pub some_plan : Doc → ℕ → ℕ → Plan
  some_plan empty c i = blank
  some_plan (text t) c i = put t
  some_plan newline c i = line i
  some_plan (cat a b) c i = let p = some_plan a c i in join p (some_plan b (last p c) i)
  some_plan (nest n d) c i = some_plan d c (R.lower (i + n))
  some_plan (align d) c i = some_plan d c (R.lower c)
  some_plan (choice a b) c i = some_plan a c i
  some_plan (annotate k d) c i = mark k (some_plan d c i)
  some_plan (penalty n d) c i = fee n (some_plan d c i)

  pub some_allowed : (d : Doc) (c i : ℕ) → Allows R d c i (some_plan d c i)
  some_allowed empty c i = is_empty
  some_allowed (text t) c i = is_text
  some_allowed newline c i = is_newline
  some_allowed (cat a b) c i = is_cat (some_allowed a c i) (some_allowed b _ i)
  some_allowed (nest n d) c i = is_nest (some_allowed d c (R.lower (i + n)))
  some_allowed (align d) c i = is_align (some_allowed d c (R.lower c))
  some_allowed (choice a b) c i = is_first (some_allowed a c i)
  some_allowed (annotate k d) c i = is_annotate (some_allowed d c i)
  some_allowed (penalty n d) c i = is_penalty (some_allowed d c i)
