-- Worked examples of this crate's definitions, by computation.
use Rattle.std.specs.Prelude.{◌≡◌, refl, Ok, Err, ℕ}
use mathlib.Core.List.{List, ◌∷◌, flat_map}
use Rattle.lists.specs.Lists.{every}
use Rattle.kinds.specs.Kinds.{kind_point, dim_xy, dim_xyz}
use Rattle.scan.specs.Text.{bytes}
use Rattle.scan.specs.Front.{begins, after_one, after_all, is_nil}
use Rattle.scan.specs.Runs.{run, first_not, after_one_at}
use Rattle.words.specs.Words.{same_word}
use Rattle.number.specs.Lexeme.{is_named, is_digits, is_exponent, is_decimal, is_unsigned, is_lexeme}
use Rattle.names.specs.Names.{spellings, lookup, meaning, ending}
use Rattle.token.specs.declared.Token.{Token}
use Rattle.tokenizer.specs.declared.Held.{Held}
use Rattle.token.specs.Examples.{all_bad}
use Rattle.token.specs.Tokens.{number_at, word_at, start_at, token_at, read_at}
use Rattle.tokenizer.specs.Tokens.{take_held, cursor_at}
use Rattle.grammar.specs.Tokens.{sort_none, sort_bad, sort_open, sort_close, sort_comma, sort_number, sort_word}
use Rattle.grammar.specs.Grammar as spec
use Rattle.grammar.specs.Grammar.{opens, empty, wrong, refusal, opening, opener, header, child_head, root_head}
use Rattle.sorts.specs.Taken.{taken}
use Rattle.headings.specs.declared.Head.TheVariants.{Opens, Empty}
use Rattle.headings.specs.Heads.{no_head, Heading, head_of, head_end, RanAt, ran_at, run_at, empty_at}

all : ℕ
unfolding all_bad run first_not after_one_at number_at word_at start_at token_at read_at take_held is_named is_digits is_exponent is_decimal is_unsigned is_lexeme begins after_one after_all is_nil same_word every flat_map spellings lookup meaning ending opening opener header child_head root_head run_at empty_at
all = 0

root : List ℕ → RanAt spec.Head
root text = run_at text root_head (cursor_at 0)

child : List ℕ → RanAt spec.Head
child text = run_at text child_head (cursor_at 0)

-- a name, with its dimension joined, after it, or none: behind `(` and EMPTY nothing is held
opened : (root (bytes "point(1") ≡ ran_at (opens kind_point dim_xy 5) (cursor_at 6)) × (root (bytes "POINTZ (1") ≡ ran_at (opens kind_point dim_xyz 7) (cursor_at 8)) × (root (bytes "POINT z (1") ≡ ran_at (opens kind_point dim_xyz 8) (cursor_at 9)) × (root (bytes "POINT EMPTY )") ≡ ran_at (empty kind_point dim_xy 6) (cursor_at 12)) × (child (bytes "POINT Z EMPTY)") ≡ ran_at (empty kind_point dim_xyz 8) (cursor_at 13))
unfolding all root child
opened = (refl, refl, refl, refl, refl)

-- 10 and 11 leave the token that was looked at held: "no token", a bad number, another word
looked : (child (bytes "POINT") ≡ ran_at (wrong (refusal 10 5)) (record { at = 5; held = Held.NoToken 5 })) × (child (bytes "POINT 4x)") ≡ ran_at (wrong (refusal 10 6)) (record { at = 8; held = Held.BadNumber 6 })) × (child (bytes "POINT foo)") ≡ ran_at (wrong (refusal 11 6)) (record { at = 9; held = Held.Is 6 (Token.Word 6 3) }))
unfolding all child
looked = (refl, refl, refl)

-- 12 has taken the token: after a name, after a dimension, and after a joined name, where no header is looked for
unopened : (child (bytes "POINT )") ≡ ran_at (wrong (refusal 12 6)) (cursor_at 7)) × (child (bytes "POINT Z foo)") ≡ ran_at (wrong (refusal 12 8)) (cursor_at 11)) × (child (bytes "POINTZ Z(") ≡ ran_at (wrong (refusal 12 7)) (cursor_at 8)) × (child (bytes "POINTZ 4x)") ≡ ran_at (wrong (refusal 29 8)) (cursor_at 9))
unfolding all child
unopened = (refl, refl, refl, refl)

-- what is no name: 9, and of the root 7, 8 and 29, of a child 18 and 28, with nothing held
unnamed : (root (bytes "FOO (") ≡ ran_at (wrong (refusal 9 0)) (cursor_at 4)) × (root (0xE4 ∷ bytes "(") ≡ ran_at (wrong (refusal 7 0)) (cursor_at 1)) × (root (bytes "(") ≡ ran_at (wrong (refusal 8 0)) (cursor_at 1)) × (root (bytes "4x") ≡ ran_at (wrong (refusal 29 1)) (cursor_at 2)) × (child (bytes ")") ≡ ran_at (wrong (refusal 18 0)) (cursor_at 1)) × (child (bytes "+ ") ≡ ran_at (wrong (refusal 28 0)) (cursor_at 2))
unfolding all root child
unnamed = (refl, refl, refl, refl, refl, refl)

-- what a heading means: its kind, dimension and place, or its refusal
means : (head_of (Ok (Opens 1 2 3 4)) ≡ opens 1 2 3) × (head_of (Ok (Empty 1 2 3 4)) ≡ empty 1 2 3) × (head_of (Err (no_head (refusal 12 3) (cursor_at 4))) ≡ wrong (refusal 12 3))
means = (refl, refl, refl)

-- and where it ends, with what is held there
behind : (head_end (Ok (Opens 1 2 3 4)) ≡ cursor_at 4) × (head_end (Ok (Empty 1 2 3 4)) ≡ cursor_at 4) × (head_end (Err (no_head (refusal 11 3) (record { at = 4; held = Held.NoToken 5 }))) ≡ record { at = 4; held = Held.NoToken 5 })
behind = (refl, refl, refl)

-- a token of each sort at 1, behind it 7, and the text EMPTY of whatever was taken: the word alone is EMPTY, and a bad number its own refusal: where no byte of one stands nothing is left
instead : ℕ → Heading
instead sort = empty_at (bytes "x EMPTY") 1 2 (taken sort 1 2 5 7)

sorted : (instead sort_word ≡ Ok (Empty 1 2 1 7)) × (instead sort_bad ≡ Err (no_head (refusal 28 1) (cursor_at 7))) × (instead sort_none ≡ Err (no_head (refusal 12 1) (cursor_at 7))) × (instead sort_open ≡ Err (no_head (refusal 12 1) (cursor_at 7))) × (instead sort_close ≡ Err (no_head (refusal 12 1) (cursor_at 7))) × (instead sort_comma ≡ Err (no_head (refusal 12 1) (cursor_at 7))) × (instead sort_number ≡ Err (no_head (refusal 12 1) (cursor_at 7)))
unfolding all instead
sorted = (refl, refl, refl, refl, refl, refl, refl)

-- in the place of `(`: EMPTY, another word, another token
emptied : (empty_at (bytes "a Empty") 1 2 (taken sort_word 2 2 5 7) ≡ Ok (Empty 1 2 2 7)) × (empty_at (bytes "a Emptyx") 1 2 (taken sort_word 2 2 6 8) ≡ Err (no_head (refusal 12 2) (cursor_at 8))) × (empty_at (bytes ")") 1 2 (taken sort_close 0 0 0 1) ≡ Err (no_head (refusal 12 0) (cursor_at 1)))
unfolding all
emptied = (refl, refl, refl)
