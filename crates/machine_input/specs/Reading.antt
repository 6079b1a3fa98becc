-- The tables of an accepted file (document 01, "Prepared file"), as the machine reads them.
use Rattle.std.proofs.Math.Option.{Option, none, some}
use Rattle.std.specs.Prelude.{List, ℕ, zero, suc, length, take, drop}
use Rattle.layout.specs.Document.{Word}
use Rattle.layout.specs.Table.{Node, Empty, Break, HardLine, Text, Seq, Fill, Group, Align, Nest, Choice, Annotate, Penalty}
use Rattle.file_tables.specs.Tables.{Tables, kind, first, second, flat, choice_start, choice_length, skipped, width, byte_length, byte_start, node_row, text_row}
use Rattle.machine.specs.Model.{Prepared, ExactChoice}

-- the children of a Seq or Fill: a range of the edges
abbrev pub edge_part : List ℕ → ℕ → ℕ → List ℕ
edge_part edges start len = take len (drop start edges)

-- document 01's kinds
abbrev pub node_of_kind : List ℕ → ℕ → ℕ → ℕ → Node
node_of_kind edges zero a b = Empty
node_of_kind edges (suc zero) a b = Text a
node_of_kind edges (suc (suc zero)) a b = Break
node_of_kind edges (suc (suc (suc zero))) a b = HardLine
node_of_kind edges (suc (suc (suc (suc zero)))) a b = Seq (edge_part edges a b)
node_of_kind edges (suc (suc (suc (suc (suc zero))))) a b = Group a
node_of_kind edges (suc (suc (suc (suc (suc (suc zero)))))) a b = Fill (edge_part edges a b)
node_of_kind edges (suc (suc (suc (suc (suc (suc (suc zero))))))) a b = Nest a b
node_of_kind edges (suc (suc (suc (suc (suc (suc (suc (suc zero)))))))) a b = Align a
node_of_kind edges (suc (suc (suc (suc (suc (suc (suc (suc (suc zero))))))))) a b = Choice a b
node_of_kind edges (suc (suc (suc (suc (suc (suc (suc (suc (suc (suc zero)))))))))) a b = Annotate a b
node_of_kind edges (suc (suc (suc (suc (suc (suc (suc (suc (suc (suc (suc k))))))))))) a b = Penalty a b

unfoldable pub node_of_row : List ℕ → List ℕ → Node
node_of_row edges row = node_of_kind edges (kind row) (first row) (second row)

-- the list stands where it has a length
abbrev pub choice_of_length : List ℕ → ℕ → ℕ → ℕ → Option ExactChoice
choice_of_length choices zero start skip = none
choice_of_length choices (suc n) start skip = some (record { alternatives = edge_part choices start (suc n); skipped = skip })

unfoldable pub choice_of_row : List ℕ → List ℕ → Option ExactChoice
choice_of_row choices row = choice_of_length choices (choice_length row) (choice_start row) (skipped row)

abbrev pub word_of_row : List ℕ → List ℕ → Word
word_of_row bytes row = record { width = width row; bytes = edge_part bytes (byte_start row) (byte_length row) }

abbrev pub prepared : Tables → Prepared
prepared t = record {
  table = record {
    node = λ n. node_of_row t.edges (node_row t n);
    flat = λ n. flat (node_row t n);
    texts = λ n. word_of_row t.bytes (text_row t n);
    space = word_of_row t.bytes (text_row t t.space);
  };
  choices = λ n. choice_of_row t.choices (node_row t n);
  root = t.root;
  space_text = t.space;
  depth = length t.nodes;
}
