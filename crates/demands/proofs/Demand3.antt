-- Demand 3: canonical text is a form, by the theorems of crate grammar; what is promised of every form, and what follows.
-- Assumes nothing.
use mathlib.Core.Path.{◌≡◌, refl, ap, sym, ◌∙◌}
use mathlib.Core.Bool.{Bool, true, false, cond}
use mathlib.Core.Option.{some}
use mathlib.Core.List.{List, [], ◌∷◌, flat_map}
use Prim.Native.Nat.{ℕ, zero, suc}
use native.Mathlib.Omega.{arith}
use lib.Dec.{leb}
use lib.ListN.{length, get_or, take, length-map}
use borrow.Author.Tests.{leb-true}
use Rattle.limits.specs.Limits.{text_limit, over_limit, depth_limit}
use Rattle.utf8.specs.Utf8.{walk, first_ill, is_utf8}
use Rattle.token.specs.declared.Refusal.{Refusal}
use Rattle.refusals.specs.Refusals.{ill_formed_store, no_room}
use Rattle.store.specs.Rows.{Row, node_over, Span, flat_rows, node_width, node_room, number_room, cell, firsts, rows_in, spans_in, zeros}
use Rattle.tree.specs.Tree.{Tree, rows, texts}
use Rattle.tree.specs.TreeIn.{span_text, span_texts, tree_in}
use Rattle.tree.specs.TreeIn as tree
use Rattle.kinds.specs.Kinds.{kind_point, kind_line_string}
use Rattle.lists.specs.Lists.{every}
use Rattle.tree.proofs.TreeIn.{tree_in_law, TreesOwn, trees_own}
use Rattle.names.specs.Names.{string_of}
use Rattle.canonical_text.specs.Canonical.{separated, put_named, put_dimension, put_with, canonical_text}
use Rattle.scan.specs.Bytes.{nul}
use Rattle.token_stream.specs.Lex.{Lexed, mark_tk, flush, lex_byte, lex_run, lex}
use Rattle.grammar.specs.Asks.{bind, run, answer_in}
use Rattle.grammar.specs.Grammar.{out, Got, ok, refused, halt, refusal, root_head, geometry_by, geometry, root}
use Rattle.grammar.specs.Reading.{enough, reading, tree_read}
use Rattle.grammar_laws.proofs.Canon.{read_back}
use Rattle.store.specs.declared.ReadAnswer.{ReadAnswer}
use Rattle.shape.specs.Numbers.{are_numbers}
use Rattle.shape.specs.Store.{all_texts, are_whole, tree_of, well_formed}
use Rattle.shape.proofs.Stores.{grown, store_tree}
use Rattle.shape.proofs.Slices.{front_of, same_store}
use Rattle.form.specs.Form.{RoomFor, Filled, Lawful}
use Rattle.form.proofs.Form.{one_tree, trees_equal, trees_again, tree_back, one_tree_one_writing}
use Rattle.store.specs.declared.WriteAnswer.{WriteAnswer}
use Rattle.store.specs.Answers.{wrote, not_written, write_answer}
use Rattle.to_wkt.specs.Canonical.{store_text, the_text, written_text}
use Rattle.to_wkt.specs.Write.{output_of}
use Rattle.to_wkt.proofs.Trees.{has_text}
use Rattle.demands.specs.Calls.{Read, used_nodes, used_numbers}
use Rattle.demands.specs.Demand3.{FitsText, canonical_form, text_entries, OneWritingOfTrees, OneWritingByCalls, Short, OneWriting, ReadsBack, ReadWell, NeverIll, ReadsAgain, Put, said_by, Writer, MeetsWrite, WritesBack, FixedText, WritesNothing, MeetsBack, NoWriter}
use Rattle.demands.proofs.Calls.{accepts, left, is_well, its_store, said}
use Rattle.demands.proofs.Demand2.{one_reader}

-- ---- canonical text is a form
tree_text : (text nodes numbers : List ℕ) (t : Tree depth_limit) → tree_of text nodes numbers ≡ some t → store_text text nodes numbers ≡ some (canonical_text t)
unfolding store_text
tree_text text nodes numbers t e = rw e

text_back : (t : Tree depth_limit) (N M : ℕ) → FitsText t → RoomFor t N M → tree_read (reading N M (canonical_text t)) ≡ some t
text_back t N M f h =
    let u = read_back N M t f.good f.short h.nodes h.numbers in
    ap tree_read u.reads ∙ ap (tree_in depth_limit (rows depth_limit t)) u.its_texts ∙ tree_in_law depth_limit t f.good.shape

text_filled : (t : Tree depth_limit) (b ns ms : List ℕ) (a : ReadAnswer) (ns' ms' : List ℕ) → tree_read (reading (node_room ns) (number_room ms) b) ≡ some t → Read b ns ms a ns' ms' → Filled canonical_form text_entries t b a ns' ms'
text_filled t b ns ms a ns' ms' h r = go (reading (node_room ns) (number_room ms) b) refl h
  where
    go : (g : Got) → reading (node_room ns) (number_room ms) b ≡ g → tree_read g ≡ some t → Filled canonical_form text_entries t b a ns' ms'
    go (ok (out rs ss)) e h =
        let o : TreesOwn depth_limit rs (span_texts ss) t = trees_own depth_limit rs (span_texts ss) t h in
        let n : length rs ≡ length (rows depth_limit t) = ap length o.its_rows in
        let m : length ss ≡ length (texts depth_limit t) = sym (length-map ss span_text) ∙ ap length o.its_texts in
        record { answer = (left b ns ms a ns' ms' rs ss r e).answer ∙ rw (n, m); tree = its_store b ns ms a ns' ms' rs ss r e t h }
    go (refused f) e h = let z : ◌≡◌ {A = ℕ} 0 1 = cc in absurd (omega arith)
    go (halt f) e h = let z : ◌≡◌ {A = ℕ} 0 1 = cc in absurd (omega arith)

lawful : Lawful canonical_form text_entries
lawful =
    record {
      keeps = text_back;
      told = λ n. refl;
      writes = λ text nodes numbers t room r bytes e f h c. said text nodes numbers (canonical_text t) room r bytes (tree_text text nodes numbers t e) h c;
      reads = text_filled;
    }

pub one_writing_by_calls : OneWritingByCalls
one_writing_by_calls = one_tree_one_writing canonical_form text_entries lawful

pub one_writing_of_trees : OneWritingOfTrees
one_writing_of_trees = (trees_equal canonical_form text_back, trees_again canonical_form text_back)

-- ---- the same of the canonical text itself
-- a store with a short canonical text: its tree, which fits
record ShortTree (text nodes numbers : List ℕ) : Type 0 where
  tree : Tree depth_limit
  is : tree_of text nodes numbers ≡ some tree
  its : written_text text nodes numbers ≡ canonical_text tree
  fits : FitsText tree

short_tree : (text nodes numbers : List ℕ) → Short text nodes numbers → ShortTree text nodes numbers
unfolding written_text
short_tree text nodes numbers s =
    let g = grown text nodes numbers s.well in
    let e : written_text text nodes numbers ≡ canonical_text g.tree = ap the_text (tree_text text nodes numbers g.tree g.is) in
    record { tree = g.tree; is = g.is; its = e; fits = record { good = (store_tree text nodes numbers g.tree g.is).good; short = rw e at s.short } }

pub one_writing : OneWriting
one_writing text nodes numbers text' nodes' numbers' s s' =
    let g = short_tree text nodes numbers s in
    let g' = short_tree text' nodes' numbers' s' in
    let q = same_store text nodes numbers text' nodes' numbers' g.tree g'.tree g.is g'.is in
    ((λ e. q.0 (one_tree canonical_form text_back g.tree g'.tree g.fits g'.fits (sym g.its ∙ e ∙ g'.its))), λ e. g.its ∙ ap canonical_text (q.1 e) ∙ sym g'.its)

pub reads_back : ReadsBack
reads_back text nodes numbers ns ms a ns' ms' s hn hm r =
    let g = short_tree text nodes numbers s in
    tree_back canonical_form text_entries lawful text nodes numbers g.tree g.is g.fits (written_text text nodes numbers) ns ms a ns' ms' g.its hn hm r

-- ---- readings
pub read_well : ReadWell
read_well text ns ms a ns' ms' r z = let o = accepts text ns ms a ns' ms' r z in is_well text ns ms a ns' ms' o.rows o.spans r o.is

pub never_ill : NeverIll
never_ill text ns ms a ns' ms' r z room w bs x e =
    let nodes : List ℕ = used_nodes a ns' in
    let numbers : List ℕ = used_numbers a ms' in
    let q : w ≡ write_answer (output_of (some (written_text text nodes numbers))) room = x.answer ∙ ap (λ o. write_answer (output_of o) room) (has_text text numbers nodes (read_well text ns ms a ns' ms' r z)) in
    go (leb (length (written_text text nodes numbers)) room) (length (written_text text nodes numbers)) (sym (ap (λ (y : WriteAnswer). y.number) q) ∙ e)
  where
    go : (b : Bool) (n : ℕ) → (cond b (wrote n) (not_written no_room)).number ≡ ill_formed_store → ⊥
    go true n e = omega arith
    go false n e = omega arith

pub reads_again : ReadsAgain
reads_again text ns ms a ns' ms' r z h ps qs c ps' qs' hn hm r' =
    let b = reads_back text (used_nodes a ns') (used_numbers a ms') ps qs c ps' qs' (record { well = read_well text ns ms a ns' ms' r z; short = h }) hn hm r' in
    (b.same_nodes, b.same_texts_law)

-- ---- writers
-- one that meets the contract says that it wrote the canonical text
meets_said : (f : Writer) → MeetsWrite f → (text nodes numbers : List ℕ) (room : ℕ) → well_formed text nodes numbers ≡ true → (f text nodes numbers room).answer.number ≡ 0 → said_by (f text nodes numbers room) ≡ written_text text nodes numbers
meets_said f m text nodes numbers room w z = go (leb (length b) room) refl
  where
    b : List ℕ
    b = written_text text nodes numbers

    its : Put
    its = f text nodes numbers room

    go : (c : Bool) → leb (length b) room ≡ c → said_by its ≡ b
    go true l =
        let q = said text nodes numbers b room its.answer its.bytes (has_text text numbers nodes w) (leb-true (length b) room l) (m text nodes numbers room) in
        ap (λ (x : WriteAnswer). take x.length its.bytes) q.0 ∙ ap (take (length b)) q.1 ∙ front_of b (length b) room refl
    go false l =
        let a : its.answer ≡ not_written no_room = (m text nodes numbers room).answer ∙ ap (λ o. write_answer (output_of o) room) (has_text text numbers nodes w) ∙ rw l in
        let e : ◌≡◌ {A = ℕ} 23 0 = sym (ap (λ (x : WriteAnswer). x.number) a) ∙ z in
        absurd (omega (arith, e))

pub meets_back : MeetsBack
meets_back f m =
    record {
      accepts =
          λ text nodes numbers room s h. (let q = said text nodes numbers (written_text text nodes numbers) room (f text nodes numbers room).answer (f text nodes numbers room).bytes (has_text text numbers nodes s.well) (omega (arith, s.short)) (m text nodes numbers room) in
          ap (λ (x : WriteAnswer). x.number) q.0);
      back =
          λ text nodes numbers room s z ns ms a ns' ms' hn hm r. (let e = meets_said f m text nodes numbers room s.well z in
          let b = reads_back text nodes numbers ns ms a ns' ms' s hn hm (rw e at r) in
          (ap (λ (x : ReadAnswer). x.number) b.answer, b.same_nodes, ap (λ (x : List ℕ). all_texts x (used_numbers a ms')) e ∙ b.same_texts_law));
    }

-- a store of one empty geometry
all : ℕ
unfolding cell firsts rows_in spans_in flat_rows every flat_map tree.on_front tree.as_a tree.times tree.at_most_one tree.find_parts tree.find_node tree.whole are_whole are_numbers tree_of well_formed store_text written_text separated put_named put_dimension string_of put_with
all = 0

abbrev empty : ℕ → List ℕ
empty k = flat_rows (node_over k 0 0 [])

short_point : Short [] (empty kind_point) []
unfolding all
short_point = record { well = refl; short = omega arith }

short_line : Short [] (empty kind_line_string) []
unfolding all
short_line = record { well = refl; short = omega arith }

-- what a writer says it wrote of such a store, as it is read back
module _ (f : Writer) (w : WritesBack f) (k : ℕ) (s : Short [] (empty k) []) where
  abbrev its_text : List ℕ
  its_text = said_by (f [] (empty k) [] text_limit)

  accepts_empty : (f [] (empty k) [] text_limit).answer.number ≡ 0
  accepts_empty = w.accepts [] (empty k) [] text_limit s (omega arith)

  reads_empty : (a : ReadAnswer) (ns' ms' : List ℕ) → Read its_text (zeros node_width) [] a ns' ms' → (a.number ≡ 0) × (used_nodes a ns' ≡ empty k)
  unfolding flat_rows flat_map
  reads_empty a ns' ms' r = let b = w.back [] (empty k) [] text_limit s accepts_empty (zeros node_width) [] a ns' ms' (omega arith) (omega arith) r in (b.0, b.1)

pub no_fixed_text : NoWriter FixedText
unfolding flat_rows flat_map
no_fixed_text f w bad = go _ _ _ (one_reader.0.1 b (zeros node_width) [])
  where
    b : List ℕ
    b = said_by (f [] (empty kind_point) [] text_limit)

    same : b ≡ said_by (f [] (empty kind_line_string) [] text_limit)
    same = bad [] (empty kind_point) [] [] (empty kind_line_string) [] text_limit (accepts_empty f w kind_point short_point) (accepts_empty f w kind_line_string short_line)

    go : (a : ReadAnswer) (ns' ms' : List ℕ) → Read b (zeros node_width) [] a ns' ms' → ⊥
    go a ns' ms' r =
        let p = reads_empty f w kind_point short_point a ns' ms' r in
        let q = reads_empty f w kind_line_string short_line a ns' ms' (rw same at r) in
        let z : ◌≡◌ {A = ℕ} 1 2 = ap (λ (x : List ℕ). get_or x 0 0) (sym p.1 ∙ q.1) in
        omega (arith, z)

-- no text, and none that starts with NUL, is accepted
no_bytes : (N M : ℕ) → reading N M [] ≡ refused (refusal 8 0)
unfolding reading root root_head bind run lex lex_run flush geometry geometry_by walk first_ill
no_bytes N M = refl

nul_first : (N M : ℕ) (bs : List ℕ) (rs : List Row) (ss : List Span) → reading N M (nul ∷ bs) ≡ ok (out rs ss) → ⊥
unfolding reading root root_head geometry geometry_by bind run lex lex_run lex_byte flush mark_tk
nul_first N M bs rs ss e = go (over_limit (length (nul ∷ bs))) (is_utf8 (nul ∷ bs)) e
  where
    first : (l : Lexed) → answer_in (run (root N M enough depth_limit) (flush 0 (lex_byte 0 nul l))) ≡ refused (refusal 8 0)
    first l = refl

    never : {f : Refusal} → refused f ≡ ok (out rs ss) → ⊥
    never h = let z : ◌≡◌ {A = ℕ} 0 1 = cc in omega (arith, z)

    go : (a c : Bool) → cond a (refused (refusal 1 text_limit)) (cond c (answer_in (run (root N M enough depth_limit) (flush 0 (lex_byte 0 nul (lex_run 1 bs))))) (refused (refusal 2 (first_ill (nul ∷ bs))))) ≡ ok (out rs ss) → ⊥
    go true c h = never h
    go false false h = never h
    go false true h = never (sym (first (lex_run 1 bs)) ∙ h)

silent : (N M l n : ℕ) (rs : List Row) (ss : List Span) → reading N M (take l (zeros n)) ≡ ok (out rs ss) → ⊥
silent N M zero n rs ss e = let z : ◌≡◌ {A = ℕ} 0 1 = cc (no_bytes N M) in omega (arith, z)
silent N M (suc l) zero rs ss e = let z : ◌≡◌ {A = ℕ} 0 1 = cc (no_bytes N M) in omega (arith, z)
silent N M (suc l) (suc n) rs ss e = nul_first N M (take l (zeros n)) rs ss e

pub no_empty_writer : NoWriter WritesNothing
no_empty_writer f w bad =
    let e = accepts_empty f w kind_point short_point in
    let p = f [] (empty kind_point) [] text_limit in
    let b : said_by p ≡ take p.answer.length (zeros text_limit) = ap (take p.answer.length) (bad [] (empty kind_point) [] text_limit e) in
    let r = one_reader.0.1 (said_by p) (zeros node_width) [] in
    let q = reads_empty f w kind_point short_point _ _ _ r in
    let o = accepts (said_by p) (zeros node_width) [] _ _ _ r q.0 in
    silent (node_room (zeros node_width)) (number_room []) p.answer.length text_limit o.rows o.spans (ap (reading (node_room (zeros node_width)) (number_room [])) (sym b) ∙ o.is)
