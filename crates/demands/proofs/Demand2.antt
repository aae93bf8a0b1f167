-- Demand 2: the reader is the grammar, every edge is read as the table says, and readers that invent are shut out.
-- Assumes nothing.
use mathlib.Core.Path.{◌≡◌, refl, ap, sym, ◌∙◌}
use mathlib.Core.Logic.{◌⊎◌, inl, inr}
use mathlib.Core.Option.{Option, none, some, map}
use mathlib.Core.List.{List, [], ◌∷◌, flat_map}
use Prim.Native.Nat.{ℕ, ◌*◌}
use native.Mathlib.Omega.{arith}
use lib.ListN.{length, get_or, length-map}
use Rattle.limits.specs.Limits.{depth_limit}
use Rattle.scan.specs.Text.{bytes}
use Rattle.number.specs.Grammar.{Float}
use Rattle.number.proofs.Equal.{sound}
use Rattle.token_stream.proofs.Bridge.{toks_lex}
use Rattle.store.specs.Rows.{Row, Span, span, node_width, number_width, node_room, number_room, cell, parts_at, span_start_at, flat_rows, flat_spans, zeros, padded}
use Rattle.lists.specs.Lists.{All}
use Rattle.grammar.specs.Answers.{Passes}
use Rattle.grammar.specs.Edges.{Edge, reads, writes, Holds, one_point, two_points, edges, every_edge}
use Rattle.grammar.specs.Grammar.{Got, ok, refused, halt, out}
use Rattle.tree.specs.Tree.{Tree}
use Rattle.tree.specs.TreeIn.{span_text, span_texts, tree_in, SpanIn}
use Rattle.canonical_text.specs.Canonical.{canonical_text}
use Rattle.grammar.specs.Reading.{reading, tree_read}
use Rattle.tree.proofs.TreeIn.{trees_own}
use Rattle.grammar_laws.proofs.WellRead.{reading_well_formed}
use Rattle.grammar_laws.proofs.Fuel.{reading_kept}
use Rattle.store.specs.declared.ReadAnswer.{ReadAnswer}
use Rattle.store.specs.Answers.{used_rows, used_spans, leaves_one}
use Rattle.wkt.specs.Leaves.{Leaves, outcome_of, answer_of, root_in}
use Rattle.lists.specs.Options.{map_o}
use Rattle.shape.specs.Store.{tree_of}
use Rattle.to_wkt.specs.Canonical.{store_text}
use Rattle.demands.specs.Calls.{Read, used_nodes, used_numbers}
use Rattle.demands.specs.Demand2.{ReadsAsGrammar, Counted, NumberTexts, ReadsEdge, EveryEdge, Left, Reader, Meets, OneReader, RefusesAll, FixedTree, FirstChildOnly, ShutsOut}
use Rattle.shape.proofs.Slices.{used_rows_law}
use Rattle.demands.proofs.Calls.{accepts, left, its_nodes, its_spans, its_store, said}

passing : (N M : ℕ) (text : List ℕ) → Passes text → reading N M text ≡ root_in N M text
unfolding reading root_in
passing N M text p = rw (p.short, p.utf8, toks_lex text)

pub reads_as_grammar : ReadsAsGrammar
reads_as_grammar text ns ms a ns' ms' p = let e = passing (node_room ns) (number_room ms) text p in ((λ r. rw e at r), λ l. rw e l)

pub counted : Counted
counted text ns ms a ns' ms' r z =
    let o = accepts text ns ms a ns' ms' r z in
    let w = reading_well_formed (node_room ns) (number_room ms) text o.rows o.spans o.is in
    let t = trees_own depth_limit o.rows (span_texts o.spans) w.tree w.is in
    let l = left text ns ms a ns' ms' o.rows o.spans r o.is in
    record {
      tree = w.tree;
      shape = t.shape;
      nodes = ap (λ (x : ReadAnswer). x.nodes) l.answer ∙ ap length t.its_rows;
      numbers = ap (λ (x : ReadAnswer). x.numbers) l.answer ∙ sym (length-map o.spans span_text) ∙ ap length t.its_texts;
      its_rows = its_nodes text ns ms a ns' ms' o.rows o.spans r o.is ∙ ap flat_rows t.its_rows;
      its_texts = ap span_texts (its_spans text ns ms a ns' ms' o.rows o.spans r o.is) ∙ t.its_texts;
    }

floats : (text : List ℕ) (ss : List Span) → All (SpanIn text) ss → All Float (span_texts ss)
unfolding All
floats text [] h = tt
floats text (span start len x ∷ ss) h = (sound x h.0.lexeme, floats text ss h.1)

pub number_texts : NumberTexts
number_texts text ns ms a ns' ms' r z =
    let o = accepts text ns ms a ns' ms' r z in
    rw (its_spans text ns ms a ns' ms' o.rows o.spans r o.is) (floats text o.spans (reading_kept (node_room ns) (number_room ms) text o.rows o.spans o.is).spans)

-- ---- the edges
-- an accepted text is written again as the canonical text of the tree that it is read to
text_of : (N M : ℕ) (text b : List ℕ) → Holds (writes N M text b) → (ns ms : List ℕ) (a : ReadAnswer) (ns' ms' : List ℕ) → node_room ns ≡ N → number_room ms ≡ M → Read text ns ms a ns' ms' → store_text text (used_nodes a ns') (used_numbers a ms') ≡ some b
unfolding store_text
text_of N M text b h ns ms a ns' ms' n m r = go (reading (node_room ns) (number_room ms) text) refl (rw (n, m) h)
  where
    tree : (rs : List Row) (ss : List Span) → reading (node_room ns) (number_room ms) text ≡ ok (out rs ss) → (o : Option (Tree depth_limit)) → tree_in depth_limit rs (span_texts ss) ≡ o → map canonical_text o ≡ some b → map_o canonical_text (tree_of text (used_nodes a ns') (used_numbers a ms')) ≡ some b
    tree rs ss e none f h = let z : ◌≡◌ {A = ℕ} 0 1 = cc in absurd (omega arith)
    tree rs ss e (some t) f h = rw (its_store text ns ms a ns' ms' rs ss r e t f) h

    go : (g : Got) → reading (node_room ns) (number_room ms) text ≡ g → map canonical_text (tree_read g) ≡ some b → map_o canonical_text (tree_of text (used_nodes a ns') (used_numbers a ms')) ≡ some b
    go (ok (out rs ss)) e h = tree rs ss e (tree_in depth_limit rs (span_texts ss)) refl h
    go (refused f) e h = let z : ◌≡◌ {A = ℕ} 0 1 = cc in absurd (omega arith)
    go (halt f) e h = let z : ◌≡◌ {A = ℕ} 0 1 = cc in absurd (omega arith)

edge : (e : Edge) → Holds e → ReadsEdge e
edge (reads N M text g) h = λ ns ms a ns' ms' n m r. rw (n, m, h) at r
edge (writes N M text b) h = λ ns ms a ns' ms' n m r room w out l x. said text (used_nodes a ns') (used_numbers a ms') b room w out (text_of N M text b h ns ms a ns' ms' n m r) l x

all_edges : (es : List Edge) → All Holds es → All ReadsEdge es
unfolding All
all_edges [] h = tt
all_edges (e ∷ es) h = (edge e h.0, all_edges es h.1)

pub reads_edges : EveryEdge
reads_edges = all_edges edges every_edge

-- ---- readers
the_reader : Reader
the_reader text ns ms =
    let g : Got = reading (node_room ns) (number_room ms) text in
    record { answer = answer_of g; nodes = padded (used_rows (outcome_of g)) (length ns); numbers = padded (used_spans (outcome_of g)) (length ms) }

same_left : (x y : Left) → x.answer ≡ y.answer → x.nodes ≡ y.nodes → x.numbers ≡ y.numbers → x ≡ y
same_left x y a n m = ap (λ (z : ReadAnswer). record { answer = z; nodes = x.nodes; numbers = x.numbers }) a ∙ ap (λ (z : List ℕ). record { answer = y.answer; nodes = z; numbers = x.numbers }) n ∙ ap (λ (z : List ℕ). record { answer = y.answer; nodes = y.nodes; numbers = z }) m

pub one_reader : OneReader
unfolding the_reader
one_reader = (
  (the_reader, λ text ns ms. record { answer = refl; nodes = refl; numbers = refl }),
  λ f g x y text ns ms. (let u = leaves_one (x text ns ms) (y text ns ms) in same_left (f text ns ms) (g text ns ms) u.0 u.1 u.2),
)

-- slices for 40 node rows and 9 number rows, as the edges have them
ns₀ : List ℕ
ns₀ = zeros (40 * node_width)

ms₀ : List ℕ
ms₀ = zeros (9 * number_width)

nodes_40 : node_room ns₀ ≡ 40
unfolding ns₀
nodes_40 = refl

numbers_9 : number_room ms₀ ≡ 9
unfolding ms₀
numbers_9 = refl

abbrev pub point : List ℕ
point = bytes "POINT(++4 +-4)"

abbrev multipoint : List ℕ
multipoint = bytes "MULTIPOINT((1 2),3 4)"

module _ (f : Reader) (m : Meets f) where
  point_read : Leaves (ok (out one_point (span 7 2 (bytes "+4") ∷ span 11 2 (bytes "-4") ∷ []))) ns₀ ms₀ (f point ns₀ ms₀).answer (f point ns₀ ms₀).nodes (f point ns₀ ms₀).numbers
  unfolding edges All
  point_read = reads_edges.1.1.1.1.1.1.1.1.0 ns₀ ms₀ _ _ _ nodes_40 numbers_9 (m point ns₀ ms₀)

  multipoint_read : Leaves (ok (out two_points (span 12 1 (bytes "1") ∷ span 14 1 (bytes "2") ∷ span 17 1 (bytes "3") ∷ span 19 1 (bytes "4") ∷ []))) ns₀ ms₀ (f multipoint ns₀ ms₀).answer (f multipoint ns₀ ms₀).nodes (f multipoint ns₀ ms₀).numbers
  unfolding edges All
  multipoint_read = reads_edges.1.1.1.1.1.1.1.1.1.0 ns₀ ms₀ _ _ _ nodes_40 numbers_9 (m multipoint ns₀ ms₀)

pub shuts_out_refusal : ShutsOut RefusesAll
shuts_out_refusal f m bad = bad point ns₀ ms₀ (ap (λ (x : ReadAnswer). x.number) (point_read f m).answer)

pub shuts_out_fixed : ShutsOut FixedTree
unfolding flat_rows flat_map
shuts_out_fixed f m bad =
    let l = point_read f m in
    let l' = multipoint_read f m in
    let e = bad point ns₀ ms₀ multipoint ns₀ ms₀ (ap (λ (x : ReadAnswer). x.number) l.answer) (ap (λ (x : ReadAnswer). x.number) l'.answer) in
    let u : used_nodes (f point ns₀ ms₀).answer (f point ns₀ ms₀).nodes ≡ flat_rows one_point = rw (l.answer, l.nodes) (used_rows_law one_point (length ns₀)) in
    let u' : used_nodes (f multipoint ns₀ ms₀).answer (f multipoint ns₀ ms₀).nodes ≡ flat_rows two_points = rw (l'.answer, l'.nodes) (used_rows_law two_points (length ns₀)) in
    let z : ◌≡◌ {A = ℕ} 1 4 = ap (λ (x : List ℕ). get_or x 0 0) (sym u ∙ e ∙ u') in
    omega (arith, z)

pub shuts_out_first : ShutsOut FirstChildOnly
unfolding flat_rows flat_spans flat_map cell ns₀ ms₀
shuts_out_first f m bad =
    let l = multipoint_read f m in
    go (bad multipoint ns₀ ms₀ (ap (λ (x : ReadAnswer). x.number) l.answer) (rw l.nodes) (rw l.nodes) (rw l.nodes))
  where
    go : (parts_at (f multipoint ns₀ ms₀).nodes 2 ≡ 0) ⊎ (span_start_at (f multipoint ns₀ ms₀).numbers 2 ≡ span_start_at (f multipoint ns₀ ms₀).numbers 0) → ⊥
    go (inl e) = let z : ◌≡◌ {A = ℕ} 1 0 = rw (multipoint_read f m).nodes at e in omega (arith, z)
    go (inr e) = let z : ◌≡◌ {A = ℕ} 17 12 = rw (multipoint_read f m).numbers at e in omega (arith, z)
