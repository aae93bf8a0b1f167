-- The messages of the refusals, a line each, from 0 on: made by tools/refusals from crates/refusals/table.txt.
use Rattle.std.specs.Prelude.{ℕ, List}
use Rattle.scan.specs.Text.{bytes}

unfoldable pub message_lines : List ℕ
message_lines = bytes "No refusal\nMore bytes than may be read; the place is the limit\nThe text is not well-formed UTF-8\nNo room for another node\nNo room for another number\nMore than 32 collections are open\nNo longer given\nEncountered non-ascii word\nInvalid WKT format\nInvalid type encountered\nEnd of stream\nUnexpected word before open paren\nMissing open parenthesis for type\nMissing closing parenthesis for type\nExpected a number for the X coordinate\nExpected a number for the Y coordinate\nExpected a number for the Z coordinate\nExpected a number for the M coordinate\nExpected a word in GEOMETRYCOLLECTION\nUnsupported WKT prefix\nInvalid WKT; no whitespace between geometry type and EMPTY.\nInvalid WKT; no '(' character and not EMPTY\nThe rows are not a well-formed store\nWhat is written is longer than the room\nThe part that names the type is not ASCII\nA field is cut, missing, extra or of wrong tag or length\nThe stored bytes are of another version\nA count, a number's text or the whole is too large for the stored form\nUnable to parse input number as the desired output type\nUnable to parse input number as the desired output type\nAn X or Y is inf or nan, which has no place in a box\nAn X or Y has an exponent beyond 9,999 or is over 10,000,000,000\n"
