-- Canonical texts, whole: a good tree's is read back, and so is that of what was read.
-- Assumes nothing.
use mathlib.Core.Path.{◌≡◌, ap, sym, ◌∙◌}
use mathlib.Core.Option.{some}
use mathlib.Core.List.{List}
use Prim.Native.Nat.{ℕ, ◌≤◌}
use native.Mathlib.Omega.{arith}
use lib.ListN.{length, length-map}
use borrow.Author.Tests.{le-ltb}
use Rattle.limits.specs.Limits.{text_limit, depth_limit}
use Rattle.store.specs.Rows.{Row, Span}
use Rattle.grammar.specs.Grammar.{out, ok}
use Rattle.grammar.specs.Reading.{enough, reading}
use Rattle.lists.specs.Lists.{All}
use Rattle.grammar.specs.Answers.{Kept}
use Rattle.tree.specs.Tree.{Tree, rows, texts, Lexeme, GoodTree}
use Rattle.canonical_text.specs.Canonical.{canonical_text}
use Rattle.tree.specs.TreeIn.{span_text, span_texts, tree_in, WellFormed}
use Rattle.tree.proofs.TreeIn.{TreesOwn, trees_own, span_lexemes}
use Rattle.grammar_laws.proofs.Fuel.{lex_size, reading_kept}
use Rattle.grammar_laws.proofs.WellRead.{reading_well_formed}
use Rattle.grammar_laws.proofs.TokensBack.{tokens_back}
use Rattle.grammar_laws.proofs.Ascii.{tree_ascii, ascii_utf8}

-- rows and number texts that reading a text gives
pub record ReadBack (N M : ℕ) (text : List ℕ) (rs : List Row) (ns : List (List ℕ)) : Type 0 where
  pub spans : List Span
  pub its_texts : span_texts spans ≡ ns
  pub reads : reading N M text ≡ ok (out rs spans)

-- the canonical text of a good tree, within the limit and with room for the tree, is accepted, and gives its rows and number texts back
pub read_back : (N M : ℕ) (t : Tree depth_limit) → GoodTree depth_limit t → length (canonical_text t) ≤ text_limit → length (rows depth_limit t) ≤ N → length (texts depth_limit t) ≤ M
    → ReadBack N M (canonical_text t) (rows depth_limit t) (texts depth_limit t)
unfolding reading
read_back N M t g h hn hm =
    let u = tokens_back N M enough depth_limit t g (omega (arith, lex_size (canonical_text t))) hn hm in
    record { spans = u.0; its_texts = u.1; reads = rw (le-ltb text_limit (length (canonical_text t)) h, ascii_utf8 (canonical_text t) (tree_ascii depth_limit t g.lexemes)) u.2 }

-- ---- reading, writing and reading again
-- an accepted reading's rows are a tree's, and its canonical text, if within the limit, is read with the same rooms as the same rows and number texts
pub record Again (N M : ℕ) (rs : List Row) (ss : List Span) : Type 0 where
  pub tree : Tree depth_limit
  pub is : tree_in depth_limit rs (span_texts ss) ≡ some tree
  pub back : length (canonical_text tree) ≤ text_limit → ReadBack N M (canonical_text tree) rs (span_texts ss)

pub reading_again : (N M : ℕ) (text : List ℕ) (rs : List Row) (ss : List Span) → reading N M text ≡ ok (out rs ss) → Again N M rs ss
reading_again N M text rs ss e =
    let w : WellFormed text rs ss = reading_well_formed N M text rs ss e in
    let k : Kept text N M rs ss = reading_kept N M text rs ss e in
    let o : TreesOwn depth_limit rs (span_texts ss) w.tree = trees_own depth_limit rs (span_texts ss) w.tree w.is in
    let l : All Lexeme (span_texts ss) = span_lexemes text ss w.numbers in
    let g : GoodTree depth_limit w.tree = record { shape = o.shape; lexemes = rw o.its_texts at l } in
    let n : length rs ≡ length (rows depth_limit w.tree) = ap length o.its_rows in
    let m : length ss ≡ length (texts depth_limit w.tree) = sym (length-map ss span_text) ∙ ap length o.its_texts in
    record {
      tree = w.tree;
      is = w.is;
      back =
          λ h. (let u = read_back N M w.tree g h (omega (arith, k.nodes)) (omega (arith, k.numbers)) in
          record { spans = u.spans; its_texts = u.its_texts ∙ sym o.its_texts; reads = u.reads ∙ ap (λ (x : List Row). ok (out x u.spans)) (sym o.its_rows) });
    }
