-- The last token that a reading takes or looks at, computed for texts with bytes after the root: a `)` closes the root, and what follows it is not looked at.
use Rattle.std.specs.Prelude.{◌≡◌, refl}
use Rattle.scan.specs.Text.{bytes}
use Rattle.token_stream.specs.Stream.{tok, close_tk, word_tk}
use Rattle.grammar.specs.Edges.{all}
use Rattle.grammar.specs.LastToken.{last_of, last_token}

pub after_a_point : last_token 40 9 (bytes "POINT(1 2) )(") ≡ tok 9 close_tk
unfolding all last_of
after_a_point = refl

pub after_a_multipoint : last_token 40 9 (bytes "MULTIPOINT((1 2),3 4),POINT(5 6)") ≡ tok 20 close_tk
unfolding all last_of
after_a_multipoint = refl

pub after_a_collection : last_token 40 9 (bytes "GEOMETRYCOLLECTION(POINT(1 2),POINT EMPTY)4x") ≡ tok 41 close_tk
unfolding all last_of
after_a_collection = refl

-- an EMPTY root ends in that word, which bytes after it could make longer
pub after_empty : last_token 40 9 (bytes "POINT EMPTY)") ≡ tok 6 (word_tk (bytes "EMPTY"))
unfolding all last_of
after_empty = refl
