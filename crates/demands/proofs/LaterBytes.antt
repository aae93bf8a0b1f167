-- Later bytes change nothing: a root that isn't EMPTY ends in a `)` of the text, and the reading doesn't look behind it.
-- Assumes nothing.
use mathlib.Core.Path.{◌≡◌, refl, ap, sym, subst, ◌∙◌}
use mathlib.Core.List.{List, [], ◌∷◌, ◌++◌}
use Prim.Native.Nat.{ℕ, ◌+◌}
use native.Mathlib.Omega.{arith}
use native.Mathlib.Numerals.{add-one}
use lib.ListN.{length, take, drop}
use lib.Seq.{split_at, length-take-le}
use Rattle.limits.specs.Limits.{depth_limit}
use Rattle.scan.specs.Bytes.{paren_close}
use Rattle.store.specs.Rows.{Row, Span, node_room, number_room, parts_at, flat_rows, padded}
use Rattle.store.proofs.Rows.{no_row_parts, first_parts}
use Rattle.token_stream.specs.Stream.{open_tk, close_tk, comma_tk, none_tk, bad_tk, word_tk, number_tk, Tok, tok, Str, hd, tl, tok_in}
use Rattle.token.specs.Tokens.{read_at}
use Rattle.token_stream.specs.Lex.{lex}
use Rattle.token_stream.proofs.Each.{Toks, hd_all, tl_all, toks_all}
use Rattle.token_stream.proofs.Bridge.{toks_lex}
use Rattle.grammar.specs.Asks.{P, ret, ask, look}
use Rattle.grammar.specs.Grammar.{out, ok, root}
use Rattle.grammar.specs.Tokens.{sort_close, sort_of, place_of}
use Rattle.grammar.specs.Reading.{enough, reading}
use Rattle.grammar.specs.LastToken.{last_of, last_token, root_parts}
use Rattle.grammar_laws.proofs.After.{after_root, ends_closed}
use Rattle.demands.specs.Faults.{ByteAt, Starts}
use Rattle.demands.specs.LaterBytes.{LaterBytes}
use Rattle.demands.proofs.Calls.{accepts, left, its_nodes, its_numbers}
use Rattle.demands.proofs.Faults.{read_starts}

-- ---- the last token is one of the text's: a `)` there is the byte at its place
last_all : {A : Type 0} (Q : Tok → Type 0) (p : P A) (s : Str) (z : Tok) → Toks Q s → Q z → Q (last_of p s z)
unfolding last_of
last_all Q (ret x) s z a q = q
last_all Q (ask k) s z a q = last_all Q (k (hd s)) (tl s) (hd s) (tl_all Q s a) (hd_all Q s a)
last_all Q (look k) s z a q = last_all Q (k (hd s)) s (hd s) a (hd_all Q s a)

abbrev Closes : List ℕ → Tok → Type 0
Closes text t = sort_of t ≡ sort_close → ByteAt text (place_of t) paren_close

closes : (text : List ℕ) (t : Tok) → Starts text t → Closes text t
closes text (tok p none_tk) s e = absurd (omega (arith, e))
closes text (tok p (bad_tk r)) s e = absurd (omega (arith, e))
closes text (tok p open_tk) s e = absurd (omega (arith, e))
closes text (tok p close_tk) s e = s
closes text (tok p comma_tk) s e = absurd (omega (arith, e))
closes text (tok p (number_tk q x)) s e = absurd (omega (arith, e))
closes text (tok p (word_tk w)) s e = absurd (omega (arith, e))

last_closes : (N M : ℕ) (text : List ℕ) → Closes text (last_token N M text)
last_closes N M text =
    let a : Toks (Closes text) (lex 0 text) = rw (toks_lex text) at (toks_all (Closes text) text (λ e. absurd (omega (arith, e))) (λ i. closes text (tok_in text (read_at text i).found) (read_starts text i))) in
    last_all (Closes text) (root N M enough depth_limit) (lex 0 text) (tok 0 none_tk) a (λ e. absurd (omega (arith, e)))

is_close : (t : Tok) → sort_of t ≡ sort_close → t ≡ tok (place_of t) close_tk
is_close (tok p none_tk) e = absurd (omega (arith, e))
is_close (tok p (bad_tk r)) e = absurd (omega (arith, e))
is_close (tok p open_tk) e = absurd (omega (arith, e))
is_close (tok p close_tk) e = refl
is_close (tok p comma_tk) e = absurd (omega (arith, e))
is_close (tok p (number_tk q x)) e = absurd (omega (arith, e))
is_close (tok p (word_tk w)) e = absurd (omega (arith, e))

-- ---- the root's row in the slice
no_parts : (rs : List Row) (ss : List Span) (n : ℕ) → root_parts (out rs ss) ≡ 0 → parts_at (padded (flat_rows rs) n) 0 ≡ 0
no_parts [] ss n e = no_row_parts n
no_parts (r ∷ rs) ss n e = first_parts r rs n e

cut_at : (text : List ℕ) (p : ℕ) → ByteAt text p paren_close → text ≡ take p text ++ paren_close ∷ drop (p + 1) text
cut_at text p b = split_at text p 0 b.0 ∙ rw (b.1, add-one p)

pub later_bytes : LaterBytes
later_bytes text ns ms a ns' ms' r z h =
    let N = node_room ns in
    let M = number_room ms in
    let got = accepts text ns ms a ns' ms' r z in
    let rs = got.rows in
    let ss = got.spans in
    let t = last_token N M text in
    let xs = take (place_of t) text in
    let ys = drop (place_of t + 1) text in
    let was = left text ns ms a ns' ms' rs ss r got.is in
    let e : sort_of t ≡ sort_close = ends_closed N M text (out rs ss) got.is (λ y. h (ap (λ (l : List ℕ). parts_at l 0) was.nodes ∙ no_parts rs ss (length ns) y)) in
    let b : ByteAt text (place_of t) paren_close = last_closes N M text e in
    let s : text ≡ xs ++ paren_close ∷ ys = cut_at text (place_of t) b in
    let n : length xs ≡ place_of t = length-take-le (place_of t) text (omega (arith, b.0)) in
    let l : t ≡ tok (length xs) close_tk = is_close t e ∙ ap (λ (q : ℕ). tok q close_tk) (sym n) in
    record {
      xs = xs;
      ys = ys;
      split = s;
      last = l;
      same = λ zs ns₁ ms₁ c ns₁' ms₁' en em p r₁.
          (let is₁ : reading N M (xs ++ paren_close ∷ zs) ≡ ok (out rs ss) = after_root N M xs ys zs (out rs ss) (subst (λ (w : List ℕ). reading N M w ≡ ok (out rs ss)) s got.is) (subst (λ (w : List ℕ). last_token N M w ≡ tok (length xs) close_tk) s l) p in
          let is₂ : reading (node_room ns₁) (number_room ms₁) (xs ++ paren_close ∷ zs) ≡ ok (out rs ss) = rw (en, em) is₁ in
          let now = left (xs ++ paren_close ∷ zs) ns₁ ms₁ c ns₁' ms₁' rs ss r₁ is₂ in (
            now.answer ∙ sym was.answer,
            its_nodes (xs ++ paren_close ∷ zs) ns₁ ms₁ c ns₁' ms₁' rs ss r₁ is₂ ∙ sym (its_nodes text ns ms a ns' ms' rs ss r got.is),
            its_numbers (xs ++ paren_close ∷ zs) ns₁ ms₁ c ns₁' ms₁' rs ss r₁ is₂ ∙ sym (its_numbers text ns ms a ns' ms' rs ss r got.is),
          ));
    }
