-- JSON that is printed on a line is read, with the line feed behind it.
use Rattle.std.proofs.Common.{◌≡◌, ℕ, ◌≤◌, Bool, true, false, cond, ◌&&◌, List, [], ◌∷◌, ◌++◌, Some, option_and_then, refl, sym, ap, ap₂, ◌∙◌, append_assoc, append-nil, arith, fold, None}
use Rattle.json.specs.Token.{Token, begin_object, end_object, begin_array, end_array, key, string, number, boolean, null, bad}
use Rattle.json.specs.Word.{ends_word, word}
use Rattle.json.specs.Lex.{Lexeme, token, comma, colon, string_token, lex, between, Place, fresh, after_value, begins_colon, punctuate, tokens}
use Rattle.json.specs.Print.{escape, quoted, token_text, begins, ends, print_from, print, IsPrintable, ArePrintable}
use Rattle.json.specs.Json as json
use Rattle.json.specs.Tree.{json_tokens, members_tokens, depth, members_depth, HasNumbers, MembersHaveNumbers}
use Rattle.json.proofs.Printed.Strings.{content-escape, lex-escape}
use Rattle.json.proofs.Printed.Numbers.{lex-number, in_word-ended}
use Rattle.json.proofs.Printed.Tokens.{tokens-print}
use Rattle.json.proofs.Printed.Trees.{value-json_tokens, ArePrintable-json_tokens}
use Rattle.serde_json.specs.Data.{Data}
use Rattle.serde_json.specs.Read.{of_json, read, max_depth}

abbrev token_lexemes : Token → List Lexeme
token_lexemes begin_object = token begin_object ∷ []
token_lexemes end_object = token end_object ∷ []
token_lexemes begin_array = token begin_array ∷ []
token_lexemes end_array = token end_array ∷ []
token_lexemes (key s) = token (string s) ∷ colon ∷ []
token_lexemes (string s) = token (string s) ∷ []
token_lexemes (number s) = token (number s) ∷ []
token_lexemes (boolean b) = token (boolean b) ∷ []
token_lexemes null = token null ∷ []
token_lexemes bad = []

-- behind a value a word ends, if it ends at the text behind all tokens
value_ends : (ts : List Token) (more : List ℕ) → ends_word more ≡ true → ends_word (print_from true ts ++ more) ≡ true
unfolding print_from
value_ends [] more e = e
value_ends (begin_object ∷ ts) more e = refl
value_ends (end_object ∷ ts) more e = refl
value_ends (begin_array ∷ ts) more e = refl
value_ends (end_array ∷ ts) more e = refl
value_ends (key s ∷ ts) more e = refl
value_ends (string s ∷ ts) more e = refl
value_ends (number s ∷ ts) more e = refl
value_ends (boolean b ∷ ts) more e = refl
value_ends (null ∷ ts) more e = refl
value_ends (bad ∷ ts) more e = refl

lex_quoted : (s more : List ℕ) → lex between (quoted s ++ more) ≡ token (string s) ∷ lex between more
unfolding lex
lex_quoted s more =
    let e = append_assoc (escape s) (34 ∷ []) more in
    ap (λ l. lex between (34 ∷ l)) e ∙ ap₂ (λ o l. token (string_token o) ∷ l) (content-escape s more) (lex-escape s more)

lex_token : (t : Token) (more : List ℕ) → IsPrintable t → (ends t ≡ true → ends_word more ≡ true) → lex between (token_text t ++ more) ≡ token_lexemes t ++ lex between more
unfolding lex word
lex_token begin_object more h ended = refl
lex_token end_object more h ended = refl
lex_token begin_array more h ended = refl
lex_token end_array more h ended = refl
lex_token (key s) more h ended = ap (lex between) (append_assoc (quoted s) (58 ∷ []) more) ∙ lex_quoted s (58 ∷ more)
lex_token (string s) more h ended = lex_quoted s more
lex_token (number s) more h ended = lex-number s more h (ended refl)
lex_token (boolean true) more h ended = ap₂ (λ b l. token (cond b (boolean true) bad) ∷ l) (ended refl) (in_word-ended more (ended refl))
lex_token (boolean false) more h ended = ap₂ (λ b l. token (cond b (boolean false) bad) ∷ l) (ended refl) (in_word-ended more (ended refl))
lex_token null more h ended = ap₂ (λ b l. token (cond b null bad) ∷ l) (ended refl) (in_word-ended more (ended refl))
lex_token bad more h ended = absurd h

lex_comma : (b : Bool) (more : List ℕ) → lex between (cond b (44 ∷ []) [] ++ more) ≡ cond b (comma ∷ []) [] ++ lex between more
unfolding lex
lex_comma true more = refl
lex_comma false more = refl

abbrev lexemes : Bool → List Token → List Lexeme
lexemes c [] = []
lexemes c (t ∷ ts) = cond (c && begins t) (comma ∷ []) [] ++ (token_lexemes t ++ lexemes (ends t) ts)

regroup : (a b c : List Lexeme) (d : List Lexeme) → a ++ (b ++ (c ++ d)) ≡ (a ++ (b ++ c)) ++ d
regroup a b c d = simp append_assoc

-- the lexemes of tokens, and of a text behind them
lex_tokens : (c : Bool) (ts : List Token) (more : List ℕ) → ArePrintable ts → ends_word more ≡ true → lex between (print_from c ts ++ more) ≡ lexemes c ts ++ lex between more
unfolding lex print_from ArePrintable
lex_tokens c [] more h e = refl
lex_tokens c (t ∷ ts) more h e =
    let b = c && begins t in
    let rest = print_from (ends t) ts in
    let ended : ends t ≡ true → ends_word (rest ++ more) ≡ true = λ is. ap (λ x. ends_word (print_from x ts ++ more)) is ∙ value_ends ts more e in
    ap (lex between) (append_assoc (cond b (44 ∷ []) []) (token_text t ++ rest) more)
    ∙ ap (λ l. lex between (cond b (44 ∷ []) [] ++ l)) (append_assoc (token_text t) rest more)
    ∙ lex_comma b (token_text t ++ (rest ++ more))
    ∙ ap (λ l. cond b (comma ∷ []) [] ++ l) (lex_token t (rest ++ more) h.0 ended ∙ ap (λ l. token_lexemes t ++ l) (lex_tokens (ends t) ts more h.1 e))
    ∙ regroup (cond b (comma ∷ []) []) (token_lexemes t) (lexemes (ends t) ts) (lex between more)

-- a text behind all tokens that has no lexeme
lex_behind : (c : Bool) (ts : List Token) (more : List ℕ) → ArePrintable ts → ends_word more ≡ true → lex between more ≡ [] → lex between (print_from c ts ++ more) ≡ lex between (print_from c ts)
unfolding lex
lex_behind c ts more h e none =
    lex_tokens c ts more h e
    ∙ ap (λ l. lexemes c ts ++ l) none
    ∙ sym (lex_tokens c ts [] h refl)
    ∙ ap (lex between) (append-nil (print_from c ts))

feed_is_blank : lex between (10 ∷ []) ≡ []
unfolding lex
feed_is_blank = refl

tokens_of_line : (ts : List Token) → ArePrintable ts → tokens (print ts ++ 10 ∷ []) ≡ ts
tokens_of_line ts h = ap (punctuate fresh) (lex_behind false ts (10 ∷ []) h refl feed_is_blank) ∙ tokens-print ts h

-- the value of a line
pub line_read : (j : json.Json) (d : Data) → HasNumbers j → depth j ≤ max_depth → of_json j ≡ Some d → read (print (json_tokens j) ++ 10 ∷ []) ≡ Some d
line_read j d numbers shallow is =
    ap (λ o. option_and_then of_json (option_and_then (λ p. json.if_last p.0 p.1) o))
    (ap (json.value max_depth) (tokens_of_line (json_tokens j) (ArePrintable-json_tokens j numbers) ∙ sym (append-nil (json_tokens j))) ∙ value-json_tokens j max_depth [] shallow)
    ∙ is

-- ---- two values

no_colon : (ts : List Token) (more : List Lexeme) → begins_colon more ≡ false → begins_colon (lexemes true ts ++ more) ≡ false
no_colon [] more e = e
no_colon (begin_object ∷ ts) more e = refl
no_colon (end_object ∷ ts) more e = refl
no_colon (begin_array ∷ ts) more e = refl
no_colon (end_array ∷ ts) more e = refl
no_colon (key s ∷ ts) more e = refl
no_colon (string s ∷ ts) more e = refl
no_colon (number s ∷ ts) more e = refl
no_colon (boolean b ∷ ts) more e = refl
no_colon (null ∷ ts) more e = refl
no_colon (bad ∷ ts) more e = refl

abbrev place : Bool → Place
place c = cond c after_value fresh

abbrev ended_by : Bool → List Token → Bool
ended_by c ts = fold (λ _ t. ends t) c ts

-- the tokens that lexemes are, and those of lexemes behind them
punctuate_more : (c : Bool) (ts : List Token) (more : List Lexeme) → ArePrintable ts → begins_colon more ≡ false → punctuate (place c) (lexemes c ts ++ more) ≡ ts ++ punctuate (place (ended_by c ts)) more
unfolding punctuate ArePrintable
punctuate_more true [] more h e = refl
punctuate_more false [] more h e = refl
punctuate_more true (begin_object ∷ ts) more h e = ap (λ l. begin_object ∷ l) (punctuate_more false ts more h.1 e)
punctuate_more true (end_object ∷ ts) more h e = ap (λ l. end_object ∷ l) (punctuate_more true ts more h.1 e)
punctuate_more true (begin_array ∷ ts) more h e = ap (λ l. begin_array ∷ l) (punctuate_more false ts more h.1 e)
punctuate_more true (end_array ∷ ts) more h e = ap (λ l. end_array ∷ l) (punctuate_more true ts more h.1 e)
punctuate_more true (key s ∷ ts) more h e = ap (λ l. key s ∷ l) (punctuate_more false ts more h.1 e)
punctuate_more true (number s ∷ ts) more h e = ap (λ l. number s ∷ l) (punctuate_more true ts more h.1 e)
punctuate_more true (boolean b ∷ ts) more h e = ap (λ l. boolean b ∷ l) (punctuate_more true ts more h.1 e)
punctuate_more true (null ∷ ts) more h e = ap (λ l. null ∷ l) (punctuate_more true ts more h.1 e)
punctuate_more true (string s ∷ ts) more h e = rw (no_colon ts more e) (ap (λ l. string s ∷ l) (punctuate_more true ts more h.1 e))
punctuate_more true (bad ∷ ts) more h e = absurd h.0
punctuate_more false (begin_object ∷ ts) more h e = ap (λ l. begin_object ∷ l) (punctuate_more false ts more h.1 e)
punctuate_more false (end_object ∷ ts) more h e = ap (λ l. end_object ∷ l) (punctuate_more true ts more h.1 e)
punctuate_more false (begin_array ∷ ts) more h e = ap (λ l. begin_array ∷ l) (punctuate_more false ts more h.1 e)
punctuate_more false (end_array ∷ ts) more h e = ap (λ l. end_array ∷ l) (punctuate_more true ts more h.1 e)
punctuate_more false (key s ∷ ts) more h e = ap (λ l. key s ∷ l) (punctuate_more false ts more h.1 e)
punctuate_more false (number s ∷ ts) more h e = ap (λ l. number s ∷ l) (punctuate_more true ts more h.1 e)
punctuate_more false (boolean b ∷ ts) more h e = ap (λ l. boolean b ∷ l) (punctuate_more true ts more h.1 e)
punctuate_more false (null ∷ ts) more h e = ap (λ l. null ∷ l) (punctuate_more true ts more h.1 e)
punctuate_more false (string s ∷ ts) more h e = rw (no_colon ts more e) (ap (λ l. string s ∷ l) (punctuate_more true ts more h.1 e))
punctuate_more false (bad ∷ ts) more h e = absurd h.0

ended_append : (c : Bool) (ts us : List Token) → ended_by c (ts ++ us) ≡ ended_by (ended_by c ts) us
ended_append c [] us = refl
ended_append c (t ∷ ts) us = ended_append (ends t) ts us

members_end : (c : Bool) (ms : json.Members) → ended_by c (members_tokens ms) ≡ true
members_end c json.no_members = refl
members_end c (json.member k j ms) = ended_append false (json_tokens j) (members_tokens ms) ∙ members_end (ended_by false (json_tokens j)) ms

-- an object, a line feed and another brace are no JSON
pub two_unread : (ms : json.Members) (more : List ℕ) → MembersHaveNumbers ms → members_depth ms ≤ 126 → read (print (json_tokens (json.object ms)) ++ 10 ∷ 123 ∷ more) ≡ None
unfolding lex punctuate
two_unread ms more numbers shallow =
    let j = json.object ms in
    let ts = json_tokens j in
    let printable = ArePrintable-json_tokens j numbers in
    let behind = token begin_object ∷ lex between more in
    let split : tokens (print ts ++ 10 ∷ 123 ∷ more) ≡ ts ++ bad ∷ [] =
    ap (punctuate fresh) (lex_tokens false ts (10 ∷ 123 ∷ more) printable refl)
    ∙ punctuate_more false ts behind printable refl
    ∙ ap (λ b. ts ++ punctuate (place b) behind) (members_end false ms) in
    ap (λ o. option_and_then of_json (option_and_then (λ p. json.if_last p.0 p.1) o)) (ap (json.value max_depth) split ∙ value-json_tokens j max_depth (bad ∷ []) (omega arith))
