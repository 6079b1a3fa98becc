-- The tables that bytes can say, right or wrong: each word has its place in a record, so that they have an encoding that a reader can judge.
-- Memory can say three things more, for which a file has no place: a kind past a byte; a flat mark that is not a bit, or a flat node beside the mark 0;
-- a text that does not start where the one before it ends. Each is 3 at its node or text (`node_is_right`, `texts_fault`).
use Rattle.std.specs.Prelude.{ℕ, ◌≤◌, ◌<◌, ◌≡◌, List, [], length, get_or, take}
use Rattle.file_tables.specs.Tables.{Tables, kind, flat_mark, flat_word, byte_start}
use Rattle.file_encode.specs.Encode.{lengths, Sized}

-- a node's row: its kind is a byte; its flat mark is a bit, and without it there is no flat node
pub record NodeSayable (row : List ℕ) : Type 0 where
  pub kind_byte : kind row < 256
  pub mark_bit : flat_mark row ≤ 1
  pub unmarked : flat_mark row ≡ 0 → flat_word row ≡ 0

-- each text starts where the one before it ends
pub record Starts (texts : List (List ℕ)) : Type 0 where
  pub start : (i : ℕ) → i < length texts → byte_start (get_or texts i []) ≡ lengths (take i texts)

pub record Sayable (t : Tables) : Type 0 where
  pub sized : Sized t
  pub nodes : (i : ℕ) → i < length t.nodes → NodeSayable (get_or t.nodes i [])
  pub texts : Starts t.texts

-- numbers as memory has them: below 2^32, and bytes below 256
pub record Ranged (t : Tables) : Type 0 where
  pub node_count : length t.nodes < 4294967296
  pub edge_count : length t.edges < 4294967296
  pub choice_count : length t.choices < 4294967296
  pub text_count : length t.texts < 4294967296
  pub annotations : t.annotations < 4294967296
  pub root : t.root < 4294967296
  pub space : t.space < 4294967296
  pub nodes : (i k : ℕ) → get_or (get_or t.nodes i []) k 0 < 4294967296
  pub edges : (i : ℕ) → get_or t.edges i 0 < 4294967296
  pub choices : (i : ℕ) → get_or t.choices i 0 < 4294967296
  pub texts : (i k : ℕ) → get_or (get_or t.texts i []) k 0 < 4294967296
  pub bytes : (i : ℕ) → get_or t.bytes i 0 < 256
