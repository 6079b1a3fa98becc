-- The header, both ways.
use Rattle.std.specs.Prelude.{◌≡◌, refl, Bool, List, [], ◌∷◌, ◌++◌, ℕ, ◌≤◌}
use Rattle.std.proofs.Common.{append_assoc, arith}
use Rattle.file_fields.specs.declared.Step.{Step}
use Rattle.file_fields.specs.declared.header.Header.{Header}
use Rattle.file_fields.specs.Fields.{got, bit, byte_at, formed}
use Rattle.file_fields.specs.Header.{h_map, h_nodes, h_edges, h_texts, h_annotations, h_choices, h_root, h_space, header_at}
use Rattle.file_encode.specs.Encode.{present, map_of, enc_field, header_map, enc_header}
use Rattle.file_encode.specs.Fields.{Bytes, Took, and_then, byte_back, field_back, count_back, formed_back, At, at_is, byte_there, field_there, count_there, formed_there}
use Rattle.file_encode.specs.Maps.{at1, at2, at4, at8, at16, at32, at64, flag_le, bit_is, whole7}

-- the counts are within their limits
pub record Within (n e x a c : ℕ) : Type 0 where
  pub nodes_low : 1 ≤ n
  pub nodes_high : n ≤ 4096
  pub edges_high : e ≤ 16384
  pub texts_low : 1 ≤ x
  pub texts_high : x ≤ 4096
  pub annotations_high : a ≤ 4096
  pub choices_high : c ≤ 16384

-- an accepted header is the encoding of its numbers, which are within their limits
pub record TookHeader (s : List ℕ) (h : Header) : Type 0 where
  pub took : Took s (got 0 0) h.next (enc_header h.nodes h.edges h.texts h.annotations h.choices h.root h.space)
  pub within : Within h.nodes h.edges h.texts h.annotations h.choices

pub formed_byte : (s : List ℕ) (high : ℕ) (p : Step) → (formed high (byte_at s p)).fault ≡ 0
    → Took s p (formed high (byte_at s p)) ((formed high (byte_at s p)).value ∷ []) × ((formed high (byte_at s p)).value ≤ high)
formed_byte s high p h = let e = formed_back high (byte_at s p) h in rw e.0 (byte_back s p (rw e.0 at h), e.1)

pub header_back : (s : List ℕ) → Bytes s → (header_at s).next.fault ≡ 0 → TookHeader s (header_at s)
unfolding header_at h_map h_nodes h_edges h_texts h_annotations h_choices h_root h_space enc_header header_map
header_back s z h =
    let m = (h_map s).value in
    let f₇ = field_back s (bit m 64) (h_root s) z h in
    let f₆ = field_back s (bit m 32) (h_choices s) z f₇.took.prior in
    let f₅ = count_back s (bit m 16) 0 16384 (h_annotations s) z f₆.took.prior in
    let f₄ = count_back s (bit m 8) 0 4096 (h_texts s) z f₅.field.took.prior in
    let f₃ = count_back s (bit m 4) 1 4096 (h_edges s) z f₄.field.took.prior in
    let f₂ = count_back s (bit m 2) 0 16384 (h_nodes s) z f₃.field.took.prior in
    let f₁ = count_back s (bit m 1) 1 4096 (h_map s) z f₂.field.took.prior in
    let b = formed_byte s 127 (got 0 0) f₁.field.took.prior in
    let e : map_of (present (h_nodes s).value ∷ present (h_edges s).value ∷ present (h_texts s).value ∷ present (h_annotations s).value ∷ present (h_choices s).value ∷ present (h_root s).value ∷ present (h_space s).value ∷ []) ≡ m =
    rw (← f₁.field.shown, ← f₂.field.shown, ← f₃.field.shown, ← f₄.field.shown, ← f₅.field.shown, ← f₆.shown, ← f₇.shown) (whole7 m b.1) in
    record {
      took =
          rw e
          (and_then b.0
          (and_then f₁.field.took
          (and_then f₂.field.took
          (and_then f₃.field.took (and_then f₄.field.took (and_then f₅.field.took (and_then f₆.took f₇.took)))))));
      within = record {
        nodes_low = f₁.above;
        nodes_high = f₁.below;
        edges_high = f₂.below;
        texts_low = f₃.above;
        texts_high = f₃.below;
        annotations_high = f₄.below;
        choices_high = f₅.below;
      };
    }

-- the header of seven numbers is read back, and the rest follows
pub record ReadHeader (s : List ℕ) (n e x a c r w : ℕ) (rest : List ℕ) : Type 0 where
  pub nodes : (header_at s).nodes ≡ n
  pub edges : (header_at s).edges ≡ e
  pub texts : (header_at s).texts ≡ x
  pub annotations : (header_at s).annotations ≡ a
  pub choices : (header_at s).choices ≡ c
  pub root : (header_at s).root ≡ r
  pub space : (header_at s).space ≡ w
  pub next : At s (header_at s).next rest

pub regroup : (a b c d e f g rest : List ℕ) → (a ++ (b ++ (c ++ (d ++ (e ++ (f ++ g)))))) ++ rest ≡ a ++ (b ++ (c ++ (d ++ (e ++ (f ++ (g ++ rest))))))
regroup a b c d e f g rest = simp append_assoc

pub map_high : (a b c d e f g : Bool) → map_of (a ∷ b ∷ c ∷ d ∷ e ∷ f ∷ g ∷ []) ≤ 127
unfolding map_of
map_high a b c d e f g = omega (arith, flag_le a, flag_le b, flag_le c, flag_le d, flag_le e, flag_le f, flag_le g)

pub header_there : (s : List ℕ) (n e x a c r w : ℕ) (rest : List ℕ) → Within n e x a c → s ≡ enc_header n e x a c r w ++ rest → ReadHeader s n e x a c r w rest
unfolding header_at h_map h_nodes h_edges h_texts h_annotations h_choices h_root h_space enc_header header_map
header_there s n e x a c r w rest i h =
    let b₁ = present n in
    let b₂ = present e in
    let b₃ = present x in
    let b₄ = present a in
    let b₅ = present c in
    let b₆ = present r in
    let b₇ = present w in
    let v = header_map n e x a c r w in
    let m = formed_there s 127 (byte_at s (got 0 0)) v _ (map_high b₁ b₂ b₃ b₄ b₅ b₆ b₇) (byte_there s (got 0 0) v _ (record { fine = refl; inside = omega arith; left = h })) in
    let l = at_is m.next (regroup (enc_field n) (enc_field e) (enc_field x) (enc_field a) (enc_field c) (enc_field r) (enc_field w) rest) in
    let o = (h_map s).value in
    let x₁ : bit o 1 ≡ b₁ = rw m.value (bit_is v 1 b₁ (at1 b₁ (b₂ ∷ b₃ ∷ b₄ ∷ b₅ ∷ b₆ ∷ b₇ ∷ []))) in
    let x₂ : bit o 2 ≡ b₂ = rw m.value (bit_is v 2 b₂ (at2 b₁ b₂ (b₃ ∷ b₄ ∷ b₅ ∷ b₆ ∷ b₇ ∷ []))) in
    let x₃ : bit o 4 ≡ b₃ = rw m.value (bit_is v 4 b₃ (at4 b₁ b₂ b₃ (b₄ ∷ b₅ ∷ b₆ ∷ b₇ ∷ []))) in
    let x₄ : bit o 8 ≡ b₄ = rw m.value (bit_is v 8 b₄ (at8 b₁ b₂ b₃ b₄ (b₅ ∷ b₆ ∷ b₇ ∷ []))) in
    let x₅ : bit o 16 ≡ b₅ = rw m.value (bit_is v 16 b₅ (at16 b₁ b₂ b₃ b₄ b₅ (b₆ ∷ b₇ ∷ []))) in
    let x₆ : bit o 32 ≡ b₆ = rw m.value (bit_is v 32 b₆ (at32 b₁ b₂ b₃ b₄ b₅ b₆ (b₇ ∷ []))) in
    let x₇ : bit o 64 ≡ b₇ = rw m.value (bit_is v 64 b₇ (at64 b₁ b₂ b₃ b₄ b₅ b₆ b₇ [])) in
    let f₁ = count_there s (bit o 1) 1 4096 (h_map s) n _ x₁ i.nodes_low i.nodes_high l in
    let f₂ = count_there s (bit o 2) 0 16384 (h_nodes s) e _ x₂ (omega arith) i.edges_high f₁.next in
    let f₃ = count_there s (bit o 4) 1 4096 (h_edges s) x _ x₃ i.texts_low i.texts_high f₂.next in
    let f₄ = count_there s (bit o 8) 0 4096 (h_texts s) a _ x₄ (omega arith) i.annotations_high f₃.next in
    let f₅ = count_there s (bit o 16) 0 16384 (h_annotations s) c _ x₅ (omega arith) i.choices_high f₄.next in
    let f₆ = field_there s (bit o 32) (h_choices s) r _ x₆ f₅.next in
    let f₇ = field_there s (bit o 64) (h_root s) w rest x₇ f₆.next in
    record {
      nodes = f₁.value;
      edges = f₂.value;
      texts = f₃.value;
      annotations = f₄.value;
      choices = f₅.value;
      root = f₆.value;
      space = f₇.value;
      next = f₇.next;
    }
