-- The words that the proofs of this crate take from others.
pub use Rattle.basis.specs.Names.{is_free_id}
unfoldable pub use Rattle.basis.specs.Names.{run_id}
pub use Rattle.basis.specs.Numbers.{within}
pub use Rattle.basis.specs.Runs.{action_word}
pub use Rattle.basis.specs.declared.numbers.TheConstants.{MAX_KEPT, MAX_SERIAL}
pub use Rattle.basis.specs.declared.rows.StateHead.{StateHead}
pub use Rattle.basis.specs.declared.rows.TheConstants.{MAX_KEY, MAX_LINEAGE, MAX_MESSAGE}
pub use Rattle.json.proofs.Grammar.{items_end, items_more, left, left-parse_map, left_none, left_some, members_end, members_more, members_no_key, read_key-shorter, value-begin_array, value-begin_object, value_is}
pub use Rattle.json.proofs.Printed.Strings.{content-escape, escape_byte_plain, lex-escape}
pub use Rattle.json.specs.Json.{Parse, after_end_array, if_last, items_step, parse_map, read_key}
unfoldable pub use Rattle.json.specs.Json.{items, members, value}
pub use Rattle.json.specs.Lex.{Lexeme, Mode, between, colon, comma, fresh, in_string, lex_byte, operator, other, punctuate, space, string_token, token, tokens}
unfoldable pub use Rattle.json.specs.Lex.{lex}
pub use Rattle.json.specs.Print.{IsPrintable, begins, ends, escape, escape_letter, print, quoted, token_text}
unfoldable pub use Rattle.json.specs.Print.{ArePrintable, escape_byte, print_from}
pub use Rattle.json.specs.Reads.{Yields, token_of}
pub use Rattle.json.specs.Token.{Token, begin_object, end_object}
pub use Rattle.json.specs.Tree.{HasNumbers, MembersHaveNumbers, items_tokens, json_tokens, members_tokens}
pub use Rattle.json.specs.Written.{Written}
unfoldable pub use Rattle.serde_json.proofs.OnLiterals.{serde_json_on_literals}
pub use Rattle.serde_json.proofs.Texts.{print-outline}
pub use Rattle.serde_json.specs.Data.{Data, Items, Members, Num, array, boolean, float, item, member, negative, no_items, no_members, null, number, object, put, string, unsigned}
pub use Rattle.serde_json.specs.Find.{as_bool, as_number, as_object, as_str, as_u64, get_member}
pub use Rattle.serde_json.specs.Read.{converted, number_from, of_items, of_json, of_members, read}
unfoldable pub use Rattle.serde_json.specs.Read.{number_of}
pub use Rattle.serde_json.specs.Written.{compact_text, items_outline, members_outline, number_text, outline}
pub use Rattle.std.proofs.Common.{Bool, IfSome, List, None, Option, Some, [], ap, append-nil, append_assoc, ap₂, arith, codes, cond, decimal, drop, eqb-true, false, get_or, inl, inr, is_some, le-ltb, leb-true, length, length-drop, lt-ltb, ltb-false, ltb-true, nat_le, nat_lt, ne_eqb, negsuc, option_and_then, option_map, pos, refl, rules, subst, suc, sym, take, take-append-drop, take_all, true, true≢false, zero, ℕ, ◌%◌, ◌&&◌, ◌*◌, ◌++◌, ◌+◌, ◌-◌, ◌/◌, ◌<◌, ◌==◌, ◌^◌, ◌||◌, ◌∙◌, ◌∷◌, ◌≡◌, ◌≤◌, ◌⊎◌}
pub use Rattle.std.proofs.lemmas.Bool.{agree_below, agree_below_at, and_parts, cases_eq, cases_lt, eqb-false, false≢true, lt-leb, or_parts}
pub use Rattle.std.proofs.lemmas.List.{drop_all, drop_more}
pub use Rattle.std.proofs.lemmas.Result.{on_ok_weaker}
pub use Rattle.std.proofs.lemmas.Str.{IsUtf8-from_is_utf8, encode_ascii, is_utf8-from_IsUtf8}
pub use Rattle.std.specs.Char.{digit_char, digit_value, encode_utf8}
pub use Rattle.std.specs.Fmt.{digit_glyph, digits_onto}
unfoldable pub use Rattle.std.specs.Fmt.{digits}
pub use Rattle.std.specs.List.{AllByRecursion, list_all}
pub use Rattle.std.specs.Prelude.{Err, IsErrAnd, IsErrOf, Ok, Result, ⊤}
pub use Rattle.std.specs.Str.{IsUtf8, bytes_eq}
unfoldable pub use Rattle.std.specs.Str.{chars, is_utf8}
