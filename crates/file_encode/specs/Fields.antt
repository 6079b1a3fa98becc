-- Single fields, both ways: what was read is the encoding of its number, and the encoding of a number reads back to it.
use Rattle.std.specs.Prelude.{◌≡◌, refl, Bool, true, false, List, [], ◌∷◌, ◌++◌, ℕ, zero, suc, ◌+◌, ◌-◌, ◌*◌, ◌/◌, ◌%◌, ◌≤◌, ◌<◌, length, get_or, drop, ltb, leb, eqb}
use Rattle.std.proofs.Common.{sym, ap, ◌∙◌, true≢false, append_assoc, arith, add-one, length-drop, drop-cons, lt-ltb, le-leb, eq-eqb, ne_eqb, leb-true, ltb-true, ltb-false, eqb-true}
use Rattle.std.proofs.lemmas.Bool.{eqb-false}
use Rattle.file_fields.specs.declared.Step.{Step}
use Rattle.file_fields.specs.Fields.{pick, got, refused, u32, byte_at, word_at, nonzero, field_at, number_at, limited, count_at, formed}
use Rattle.file_form.specs.Nodes.{checked}
use Rattle.file_encode.specs.Encode.{enc32, enc_if, enc_field, present, flag}

-- every byte is below 256
pub record Bytes (s : List ℕ) : Type 0 where
  pub byte : (i : ℕ) → get_or s i 0 < 256

-- ---- a number

drop4 : (s : List ℕ) (at : ℕ) → at + 4 ≤ length s → drop at s ≡ get_or s at 0 ∷ get_or s (at + 1) 0 ∷ get_or s (at + 2) 0 ∷ get_or s (at + 3) 0 ∷ drop (at + 4) s
drop4 s at h =
    let e₁ : at + 1 ≡ suc at = omega arith in
    let e₂ : at + 2 ≡ suc (suc at) = omega arith in
    let e₃ : at + 3 ≡ suc (suc (suc at)) = omega arith in
    let e₄ : at + 4 ≡ suc (suc (suc (suc at))) = omega arith in
    rw (e₁, e₂, e₃, e₄)
    (drop-cons s at 0 (omega arith)
    ∙ ap (λ l. get_or s at 0 ∷ l) (drop-cons s (suc at) 0 (omega arith)
    ∙ ap (λ l. get_or s (suc at) 0 ∷ l) (drop-cons s (suc (suc at)) 0 (omega arith)
    ∙ ap (λ l. get_or s (suc (suc at)) 0 ∷ l) (drop-cons s (suc (suc (suc at))) 0 (omega arith)))))

-- four bytes are the bytes of the number that they spell
bytes4 : (a b c d : ℕ) → a < 256 → b < 256 → c < 256 → d < 256 → a ∷ b ∷ c ∷ d ∷ [] ≡ enc32 (a + b * 256 + c * 65536 + d * 16777216)
bytes4 a b c d ha hb hc hd =
    let v = a + b * 256 + c * 65536 + d * 16777216 in
    let e₀ : v % 256 ≡ a = omega arith in
    let q₁ : v / 256 ≡ b + c * 256 + d * 65536 = omega arith in
    let q₂ : v / 65536 ≡ c + d * 256 = omega arith in
    let e₁ : v / 256 % 256 ≡ b = rw q₁ (omega arith) in
    let e₂ : v / 65536 % 256 ≡ c = rw q₂ (omega arith) in
    let e₃ : v / 16777216 ≡ d = omega arith in
    rw (e₀, e₁, e₂, e₃)

-- and a number is what its bytes spell
pub spelt : (v : ℕ) → v % 256 + v / 256 % 256 * 256 + v / 65536 % 256 * 65536 + v / 16777216 * 16777216 ≡ v
spelt v = omega arith

-- a flag is its bit
pub flag_bit : (a : Bool) → eqb (flag a) 1 ≡ a
flag_bit true = refl
flag_bit false = refl

-- a bit is the flag of its test
pub bit_flag : (r : ℕ) → r < 2 → flag (eqb r 1) ≡ r
bit_flag zero h = refl
bit_flag (suc zero) h = refl
bit_flag (suc (suc r)) h = absurd (omega arith)

-- ---- what was read

-- the step q after p took the bytes e
pub record Took (s : List ℕ) (p q : Step) (e : List ℕ) : Type 0 where
  pub prior : p.fault ≡ 0
  pub bytes : drop p.at s ≡ e ++ drop q.at s

pub and_then : {s : List ℕ} {p q r : Step} {e f : List ℕ} → Took s p q e → Took s q r f → Took s p r (e ++ f)
and_then {s} {p} {q} {r} {e} {f} a b = record { prior = a.prior; bytes = a.bytes ∙ rw b.bytes (sym (append_assoc e f (drop r.at s))) }

pub byte_back : (s : List ℕ) (p : Step) → (byte_at s p).fault ≡ 0 → Took s p (byte_at s p) ((byte_at s p).value ∷ [])
unfolding byte_at
byte_back s p h = go (eqb p.fault 0) (ltb p.at (length s)) refl refl h
  where
    go : (a b : Bool) → eqb p.fault 0 ≡ a → ltb p.at (length s) ≡ b
        → (pick a (pick b (got (get_or s p.at 0) (p.at + 1)) (refused 2 p.at)) p).fault ≡ 0
        → Took s p (pick a (pick b (got (get_or s p.at 0) (p.at + 1)) (refused 2 p.at)) p) ((pick a (pick b (got (get_or s p.at 0) (p.at + 1)) (refused 2 p.at)) p).value ∷ [])
    go true true ea eb f = record { prior = eqb-true p.fault 0 ea; bytes = rw (add-one, drop-cons s p.at 0 (ltb-true p.at (length s) eb)) }
    go true false ea eb f = absurd (omega arith)
    go false b ea eb f = absurd (eqb-false p.fault 0 ea f)

word_back : (s : List ℕ) (at : ℕ) → Bytes s → (word_at s at).fault ≡ 0 → drop at s ≡ enc32 (word_at s at).value ++ drop (word_at s at).at s
unfolding word_at
word_back s at z h = go (leb (at + 4) (length s)) refl h
  where
    go : (b : Bool) → leb (at + 4) (length s) ≡ b
        → (pick b (got (u32 s at) (at + 4)) (refused 2 at)).fault ≡ 0
        → drop at s ≡ enc32 (pick b (got (u32 s at) (at + 4)) (refused 2 at)).value ++ drop (pick b (got (u32 s at) (at + 4)) (refused 2 at)).at s
    go true e f =
        drop4 s at (leb-true (at + 4) (length s) e)
        ∙ ap (λ l. l ++ drop (at + 4) s) (bytes4 (get_or s at 0) (get_or s (at + 1) 0) (get_or s (at + 2) 0) (get_or s (at + 3) 0) (z.byte at) (z.byte (at + 1)) (z.byte (at + 2)) (z.byte (at + 3)))
    go false e f = absurd (omega arith)

nonzero_back : (w : Step) → (nonzero w).fault ≡ 0 → (w.fault ≡ 0) × ((nonzero w ≡ w) × (w.value ≡ 0 → ⊥))
unfolding nonzero
nonzero_back w h = go (eqb w.fault 0) (eqb w.value 0) refl refl h
  where
    go : (a b : Bool) → eqb w.fault 0 ≡ a → eqb w.value 0 ≡ b
        → (pick a (pick b (refused 3 w.at) w) w).fault ≡ 0
        → (w.fault ≡ 0) × ((pick a (pick b (refused 3 w.at) w) w ≡ w) × (w.value ≡ 0 → ⊥))
    go true true ea eb f = absurd (omega arith)
    go true false ea eb f = (f, (refl, eqb-false w.value 0 eb))
    go false true ea eb f = absurd (eqb-false w.fault 0 ea f)
    go false false ea eb f = absurd (eqb-false w.fault 0 ea f)

-- a field took its encoding, and its bit says whether it is present
pub record TookField (s : List ℕ) (on : Bool) (p q : Step) : Type 0 where
  pub took : Took s p q (enc_field q.value)
  pub shown : on ≡ present q.value

pub field_back : (s : List ℕ) (on : Bool) (p : Step) → Bytes s → (field_at s on p).fault ≡ 0 → TookField s on p (field_at s on p)
unfolding field_at
field_back s on p z h = go (eqb p.fault 0) on refl h
  where
    go : (a on : Bool) → eqb p.fault 0 ≡ a
        → (pick a (pick on (nonzero (word_at s p.at)) (got 0 p.at)) p).fault ≡ 0
        → TookField s on p (pick a (pick on (nonzero (word_at s p.at)) (got 0 p.at)) p)
    go true true ea f =
        let n = nonzero_back (word_at s p.at) f in
        let e : present (word_at s p.at).value ≡ true = lt-ltb 0 (word_at s p.at).value (omega (arith, n.1.1)) in
        rw n.1.0 (record { took = record { prior = eqb-true p.fault 0 ea; bytes = rw e (word_back s p.at z n.0) }; shown = sym e })
    go true false ea f = record { took = record { prior = eqb-true p.fault 0 ea; bytes = refl }; shown = refl }
    go false true ea f = absurd (eqb-false p.fault 0 ea f)
    go false false ea f = absurd (eqb-false p.fault 0 ea f)

-- a number that may be 0 took its encoding, and is 0 where it is absent
pub record TookNumber (s : List ℕ) (on : Bool) (p q : Step) : Type 0 where
  pub took : Took s p q (enc_if on q.value)
  pub absent : on ≡ false → q.value ≡ 0

pub number_back : (s : List ℕ) (on : Bool) (p : Step) → Bytes s → (number_at s on p).fault ≡ 0 → TookNumber s on p (number_at s on p)
unfolding number_at
number_back s on p z h = go (eqb p.fault 0) on refl h
  where
    go : (a on : Bool) → eqb p.fault 0 ≡ a
        → (pick a (pick on (word_at s p.at) (got 0 p.at)) p).fault ≡ 0
        → TookNumber s on p (pick a (pick on (word_at s p.at) (got 0 p.at)) p)
    go true true ea f = record { took = record { prior = eqb-true p.fault 0 ea; bytes = word_back s p.at z f }; absent = λ e. absurd (true≢false e) }
    go true false ea f = record { took = record { prior = eqb-true p.fault 0 ea; bytes = refl }; absent = λ _. refl }
    go false on ea f = absurd (eqb-false p.fault 0 ea f)

limited_back : (low high : ℕ) (f : Step) → (limited low high f).fault ≡ 0 → (limited low high f ≡ f) × ((low ≤ f.value) × (f.value ≤ high))
unfolding limited
limited_back low high f h = go (eqb f.fault 0) (leb low f.value) (leb f.value high) refl refl refl h
  where
    go : (a b c : Bool) → eqb f.fault 0 ≡ a → leb low f.value ≡ b → leb f.value high ≡ c
        → (pick a (pick b (pick c f (refused 4 f.at)) (refused 4 f.at)) (refused f.fault f.at)).fault ≡ 0
        → (pick a (pick b (pick c f (refused 4 f.at)) (refused 4 f.at)) (refused f.fault f.at) ≡ f) × ((low ≤ f.value) × (f.value ≤ high))
    go true true true ea eb ec h = (refl, (leb-true low f.value eb, leb-true f.value high ec))
    go true true false ea eb ec h = absurd (omega arith)
    go true false c ea eb ec h = absurd (omega arith)
    go false b c ea eb ec h = absurd (eqb-false f.fault 0 ea h)

-- a count took its encoding, and is within its limits
pub record TookCount (s : List ℕ) (on : Bool) (low high : ℕ) (p q : Step) : Type 0 where
  pub field : TookField s on p q
  pub above : low ≤ q.value
  pub below : q.value ≤ high

pub count_back : (s : List ℕ) (on : Bool) (low high : ℕ) (p : Step) → Bytes s → (count_at s on low high p).fault ≡ 0 → TookCount s on low high p (count_at s on low high p)
unfolding count_at
count_back s on low high p z h =
    let l = limited_back low high (field_at s on p) h in
    rw l.0 (record { field = field_back s on p z (rw l.0 at h); above = l.1.0; below = l.1.1 })

pub checked_back : (ok : Bool) (f : Step) → (checked ok f).fault ≡ 0 → (checked ok f ≡ f) × (ok ≡ true)
unfolding checked
checked_back ok f h = go (eqb f.fault 0) ok refl h
  where
    go : (a b : Bool) → eqb f.fault 0 ≡ a → (pick a (pick b f (refused 3 f.at)) f).fault ≡ 0 → (pick a (pick b f (refused 3 f.at)) f ≡ f) × (b ≡ true)
    go true true ea h = (refl, refl)
    go true false ea h = absurd (omega arith)
    go false b ea h = absurd (eqb-false f.fault 0 ea h)

pub formed_back : (high : ℕ) (f : Step) → (formed high f).fault ≡ 0 → (formed high f ≡ f) × (f.value ≤ high)
unfolding formed
formed_back high f h = go (eqb f.fault 0) (leb f.value high) refl refl h
  where
    go : (a b : Bool) → eqb f.fault 0 ≡ a → leb f.value high ≡ b → (pick a (pick b f (refused 3 f.at)) f).fault ≡ 0
        → (pick a (pick b f (refused 3 f.at)) f ≡ f) × (f.value ≤ high)
    go true true ea eb h = (refl, leb-true f.value high eb)
    go true false ea eb h = absurd (omega arith)
    go false b ea eb h = absurd (eqb-false f.fault 0 ea h)

-- ---- what was written

-- at the step p the bytes rest are left
pub record At (s : List ℕ) (p : Step) (rest : List ℕ) : Type 0 where
  pub fine : p.fault ≡ 0
  pub inside : p.at ≤ length s
  pub left : drop p.at s ≡ rest

pub at_is : {s : List ℕ} {p : Step} {x y : List ℕ} → At s p x → x ≡ y → At s p y
at_is a e = record { fine = a.fine; inside = a.inside; left = a.left ∙ e }

-- the step q is the number v, and the rest is left
pub record Read (s : List ℕ) (q : Step) (v : ℕ) (rest : List ℕ) : Type 0 where
  pub value : q.value ≡ v
  pub next : At s q rest

pub byte_there : (s : List ℕ) (p : Step) (b : ℕ) (rest : List ℕ) → At s p (b ∷ rest) → Read s (byte_at s p) b rest
unfolding byte_at
byte_there s p b rest h =
    let hl : length s - p.at ≡ suc (length rest) = sym (length-drop p.at s) ∙ ap length h.left in
    let lt : p.at < length s = omega arith in
    let e = sym (drop-cons s p.at 0 lt) ∙ h.left in
    rw (eq-eqb p.fault 0 h.fine, lt-ltb p.at (length s) lt)
    (record { value = ap (λ l. get_or l 0 0) e; next = record { fine = refl; inside = omega arith; left = rw add-one (ap (drop 1) e) } })

word_there : (s : List ℕ) (at v : ℕ) (rest : List ℕ) → drop at s ≡ enc32 v ++ rest → Read s (word_at s at) v rest
unfolding word_at
word_there s at v rest h =
    let hl : length s - at ≡ 4 + length rest = sym (length-drop at s) ∙ ap length h ∙ omega arith in
    let le : at + 4 ≤ length s = omega arith in
    let e = sym (drop4 s at le) ∙ h in
    let z : u32 s at ≡ v = ap (λ l. get_or l 0 0 + get_or l 1 0 * 256 + get_or l 2 0 * 65536 + get_or l 3 0 * 16777216) e ∙ spelt v in
    rw (le-leb (at + 4) (length s) le) (record { value = z; next = record { fine = refl; inside = le; left = ap (drop 4) e } })

pub number_there : (s : List ℕ) (on : Bool) (p : Step) (v : ℕ) (rest : List ℕ)
    → (on ≡ false → v ≡ 0) → At s p (enc_if on v ++ rest) → Read s (number_at s on p) v rest
unfolding number_at
number_there s true p v rest z h = rw (eq-eqb p.fault 0 h.fine) (word_there s p.at v rest h.left)
number_there s false p v rest z h =
    rw (eq-eqb p.fault 0 h.fine) (record { value = sym (z refl); next = record { fine = refl; inside = h.inside; left = h.left } })

pub field_there : (s : List ℕ) (on : Bool) (p : Step) (v : ℕ) (rest : List ℕ)
    → on ≡ present v → At s p (enc_field v ++ rest) → Read s (field_at s on p) v rest
unfolding field_at nonzero
field_there s true p v rest e h =
    let w = word_there s p.at v rest (rw (← e) at h.left) in
    let n : v ≡ 0 → ⊥ = λ q. omega (arith, ltb-true 0 v (sym e), q) in
    rw (eq-eqb p.fault 0 h.fine, eq-eqb (word_at s p.at).fault 0 w.next.fine, ne_eqb (word_at s p.at).value 0 (λ q. n (sym w.value ∙ q))) w
field_there s false p v rest e h =
    let z : v ≡ 0 = omega (arith, ltb-false 0 v (sym e)) in
    rw (eq-eqb p.fault 0 h.fine) (record { value = sym z; next = record { fine = refl; inside = h.inside; left = rw (← e) at h.left } })

pub count_there : (s : List ℕ) (on : Bool) (low high : ℕ) (p : Step) (v : ℕ) (rest : List ℕ)
    → on ≡ present v → low ≤ v → v ≤ high → At s p (enc_field v ++ rest) → Read s (count_at s on low high p) v rest
unfolding count_at limited
count_there s on low high p v rest e hl hh h =
    let w = field_there s on p v rest e h in
    let l : low ≤ (field_at s on p).value = rw w.value hl in
    let m : (field_at s on p).value ≤ high = rw w.value hh in
    rw (eq-eqb (field_at s on p).fault 0 w.next.fine, le-leb low (field_at s on p).value l, le-leb (field_at s on p).value high m) w

pub checked_there : (s : List ℕ) (ok : Bool) (f : Step) (v : ℕ) (rest : List ℕ) → ok ≡ true → Read s f v rest → Read s (checked ok f) v rest
unfolding checked
checked_there s ok f v rest e r = rw (eq-eqb f.fault 0 r.next.fine, e) r

pub formed_there : (s : List ℕ) (high : ℕ) (f : Step) (v : ℕ) (rest : List ℕ) → v ≤ high → Read s f v rest → Read s (formed high f) v rest
unfolding formed
formed_there s high f v rest h r =
    let m : f.value ≤ high = rw r.value h in
    rw (eq-eqb f.fault 0 r.next.fine, le-leb f.value high m) r
