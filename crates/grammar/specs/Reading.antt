-- What reading a text comes to, with room for N node rows and M number rows.
use Rattle.std.specs.Prelude.{cond, List, ℕ, length}
use Rattle.std.proofs.Math.Option.{Option, none}
use Rattle.limits.specs.Limits.{text_limit, over_limit, depth_limit}
use Rattle.refusals.specs.Refusals.{text_too_long, ill_formed_utf8}
use Rattle.utf8.specs.Utf8.{is_utf8, first_ill}
use Rattle.token_stream.specs.Lex.{lex}
use Rattle.token_stream.specs.Stream.{Str}
use Rattle.tree.specs.Tree.{Tree}
use Rattle.tree.specs.TreeIn.{span_texts, tree_in}
use Rattle.grammar.specs.Asks.{run, answer_in}
use Rattle.grammar.specs.Grammar.{out, Got, ok, refused, halt, refusal, root}

-- the count down of the comma loops: more than any text has tokens, and the same for all texts
abbrev pub enough : ℕ
enough = 4294967296

-- "Order for reading: 1, 2, then as met". "What follows the root is unread.": what a text comes to, whose tokens are s
abbrev pub reading_over : ℕ → ℕ → List ℕ → Str → Got
reading_over N M text s =
    cond (over_limit (length text)) (refused (refusal text_too_long text_limit))
    (cond (is_utf8 text) (answer_in (run (root N M enough depth_limit) s)) (refused (refusal ill_formed_utf8 (first_ill text))))

unfoldable pub reading : ℕ → ℕ → List ℕ → Got
reading N M text = reading_over N M text (lex 0 text)

-- the tree that an accepted reading's node rows and number texts are
abbrev pub tree_read : Got → Option (Tree depth_limit)
tree_read (ok (out rs ss)) = tree_in depth_limit rs (span_texts ss)
tree_read (refused f) = none
tree_read (halt f) = none
