-- A whole written text is read as its tree: INFO, the two lists of names, and the one line of GUARANTEE.
use Rattle.std.specs.Prelude.{ℕ, zero, suc, ◌≤◌, ◌<◌, ◌≡◌, true, false, ◌&&◌, length}
use Rattle.std.proofs.Math.Path.{refl, ap}
use Rattle.std.proofs.Common.{◌∙◌, length-append, arith}
use mathlib.Core.List.{List, [], ◌∷◌, ◌++◌}
use Rattle.std.proofs.Math.Option.{Option, none, some}
use Rattle.node.specs.Ltl.{Formula}
use Rattle.node.specs.Result.{Result, Done, ◌>>=◌}
use Rattle.node.proofs.ResultLaws.{bind_to}
use Rattle.language.specs.Bytes.{ascii}
use Rattle.language.specs.Tokens.{Name, End, Token, tokens}
use Rattle.language.specs.Operators.{loosest}
use Rattle.language.specs.Tree.{Declaration, OneSignal, Guarantee, Subsection, Inputs, Outputs, Lines, Model, Mealy, Moore, Spec}
use Rattle.language.specs.Grammar.{Tokens, rest, stop, next, expect, expect_of}
use Rattle.language.specs.Sections.{expression, info_of, global_of, lines_of, block_of, declaration_of, HeadingRow, headings, seen, heading_of, subsection_of, subsections_of, spec_of}
use Rattle.language.proofs.Laws.Basics.Lists.{All}
use Rattle.basic.specs.Basic.{model_word, basic_tokens, parted}
use Rattle.basic.proofs.Lexed.{Lexeme, sign, past, token_at, laid, ending, Alone, lexed, laid-append, laid-length}
use Rattle.basic.proofs.Lexemes.{body_lexemes, line_lexemes, info_lexemes, guarantee_lexemes, output_lexemes, main_lexemes, basic_lexemes, basic_each, line-length}
use Rattle.basic.proofs.ParsedFormula.{tree_of, tree_then, tree-read}

-- the declarations of names from an offset on
abbrev pub singles : ℕ → List (List ℕ) → List Declaration
singles at [] = []
singles at (n ∷ ns) = OneSignal (token_at at (Name, n)) ∷ singles (past (sign ";") (past (Name, n) at)) ns

lines-read : (ns : List (List ℕ)) (f at : ℕ) (end : ℕ) (ts : Tokens) → length ns < f → lines_of f declaration_of (laid at (line_lexemes ns) ++ (token_at end (sign "}") ∷ ts)) ≡ Done (singles at ns, ts)
unfolding ◌>>=◌
lines-read ns zero at end ts h = absurd (omega arith)
lines-read [] (suc f) at end ts h = refl
lines-read (n ∷ ns) (suc f) at end ts h =
    let next = past (sign ";") (past (Name, n) at) in
    ap (λ r. r >>= λ (ls, ts). Done (OneSignal (token_at at (Name, n)) ∷ ls, ts)) (lines-read ns f next end ts (omega arith))

names-read : (brace at end : ℕ) (ns : List (List ℕ)) (ts : Tokens)
    → block_of declaration_of (token_at brace (sign "{") ∷ (laid at (line_lexemes ns) ++ (token_at end (sign "}") ∷ ts))) ≡ Done (singles at ns, ts)
unfolding ◌>>=◌
names-read brace at end ns ts =
    let all = laid at (line_lexemes ns) ++ (token_at end (sign "}") ∷ ts) in
    lines-read ns (length all) at end ts
    (omega (arith, length-append (laid at (line_lexemes ns)) (token_at end (sign "}") ∷ ts), laid-length at (line_lexemes ns), line-length ns))

-- one line with its `;`
line_read : (brace at semi end : ℕ) (names : List (List ℕ)) (f : Formula) (ts : Tokens) →
    block_of expression (token_at brace (sign "{") ∷ tree_then names at f (token_at semi (sign ";") ∷ token_at end (sign "}") ∷ ts)) ≡ Done (tree_of names at f ∷ [], ts)
unfolding ◌>>=◌
line_read brace at semi end names f ts =
    let more = token_at semi (sign ";") ∷ token_at end (sign "}") ∷ ts in
    let all = tree_then names at f more in
    go (length all) (omega (arith, length-append (laid (past (sign "(") at) (body_lexemes names f)) more))
  where
    go : (n : ℕ) → 2 ≤ n → lines_of n expression (tree_then names at f (token_at semi (sign ";") ∷ token_at end (sign "}") ∷ ts)) ≡ Done (tree_of names at f ∷ [], ts)
    go zero h = absurd (omega arith)
    go (suc zero) h = absurd (omega arith)
    go (suc (suc n)) h =
        ap (λ r. r >>= λ (l, ts).
        elim (next ";" ts) [
          | true ↦ lines_of (suc n) expression (rest ts) >>= λ (ls, ts). Done (l ∷ ls, ts)
          | false ↦ expect "}" ts >>= λ (c, ts). Done (l ∷ [], ts)
        ])
        (tree-read names f loosest at (token_at semi (sign ";") ∷ token_at end (sign "}") ∷ ts) refl)

-- one subsection, then the others
section-step : (f : ℕ) (before : List ℕ) (r : HeadingRow) (t : Token) (ts us vs : Tokens) (s : Subsection) (ss : List Subsection) → heading_of headings before t ≡ some r
    → subsection_of r.heading ts ≡ Done (s, us)
    → subsections_of f (r.number ∷ before) us ≡ Done (ss, vs) → subsections_of (suc f) before (t ∷ ts) ≡ Done (s ∷ ss, vs)
section-step f before r t ts us vs s ss h e g =
    ap (λ (o : Option HeadingRow). elim o [
      | some r ↦ subsection_of r.heading ts >>= λ (s, ts). subsections_of f (r.number ∷ before) ts >>= λ (ss, ts). Done (s ∷ ss, ts)
      | none ↦ elim (seen before 0 && seen before 1) [ true ↦ expect "}" (t ∷ ts) >>= λ (c, ts). Done ([], ts) | false ↦ stop (t ∷ ts) ]
    ]) h
    ∙ bind_to (subsection_of r.heading ts) (s, us) (λ (s, ts). subsections_of f (r.number ∷ before) ts >>= λ (ss, ts). Done (s ∷ ss, ts)) e
    ∙ bind_to (subsections_of f (r.number ∷ before) us) (ss, vs) (λ (ss, ts). Done (s ∷ ss, ts)) g

-- MAIN of a written text, whose lists of names and whose line stand at these offsets
abbrev pub main_for : (inputs outputs names : List (List ℕ)) → Formula → ℕ × ℕ × ℕ → List Subsection
main_for inputs outputs names f at = Inputs (singles at.0 inputs) ∷ Outputs (singles at.1 outputs) ∷ Lines Guarantee (tree_of names at.2 f ∷ []) ∷ []

-- a tree without GLOBAL; `word` is TARGET's
abbrev pub plain_spec : Model → Token → List Subsection → Spec
plain_spec m word main = record { semantics = m; strict = false; target = m; target_word = word; parameters = []; definitions = []; main = main }

-- the text's end
abbrev pub end_at : ℕ → Token
end_at at = record { class = End; at = at; text = [] }

-- what stands behind the last blank
abbrev pub last_at : ℕ → Tokens
last_at at = token_at at (sign "}") ∷ end_at (suc at) ∷ []

module _ (inputs outputs names : List (List ℕ)) (f : Formula) where
  abbrev guaranteed : List Lexeme
  guaranteed = sign "GUARANTEE" ∷ sign "{" ∷ sign "(" ∷ (body_lexemes names f ++ (sign ";" ∷ sign "}" ∷ []))

  abbrev listed : List Lexeme
  listed = sign "OUTPUTS" ∷ sign "{" ∷ (line_lexemes outputs ++ guarantee_lexemes names f)

  -- from each heading on, what is read of MAIN; n is where the last token stands
  abbrev line_from : ℕ → Subsection
  line_from at = Lines Guarantee (tree_of names (ending at (sign "GUARANTEE" ∷ sign "{" ∷ [])) f ∷ [])

  guarantee_read : (at n : ℕ) → subsections_of 7 (1 ∷ 0 ∷ []) (laid at guaranteed ++ last_at n) ≡ Done (line_from at ∷ [], end_at (suc n) ∷ [])
  unfolding ◌>>=◌
  guarantee_read at n =
      let brace = past (sign "GUARANTEE") at in
      let start = past (sign "{") brace in
      let inner = past (sign "(") start in
      let semi = ending inner (body_lexemes names f) in
      let end = past (sign ";") semi in
      let block = token_at brace (sign "{") ∷ tree_then names start f (token_at semi (sign ";") ∷ token_at end (sign "}") ∷ last_at n) in
      ap (λ ts. subsections_of 7 (1 ∷ 0 ∷ []) (token_at at (sign "GUARANTEE") ∷ token_at brace (sign "{") ∷ token_at start (sign "(") ∷ ts))
      (laid-append inner (body_lexemes names f) (sign ";" ∷ sign "}" ∷ []) (last_at n))
      ∙ section-step 6 (1 ∷ 0 ∷ []) _ (token_at at (sign "GUARANTEE")) block (last_at n) (end_at (suc n) ∷ []) (line_from at) [] refl
      (ap (λ r. r >>= λ (es, ts). Done (Lines Guarantee es, ts)) (line_read brace start semi end names f (last_at n))) refl

  outputs-read : (at n : ℕ) →
      let start = ending at (sign "OUTPUTS" ∷ sign "{" ∷ []) in
      let next = past (sign "}") (ending start (line_lexemes outputs)) in
      subsections_of 8 (0 ∷ []) (laid at listed ++ last_at n) ≡ Done (Outputs (singles start outputs) ∷ line_from next ∷ [], end_at (suc n) ∷ [])
  unfolding ◌>>=◌
  outputs-read at n =
      let brace = past (sign "OUTPUTS") at in
      let start = past (sign "{") brace in
      let end = ending start (line_lexemes outputs) in
      let next = past (sign "}") end in
      let more = laid next guaranteed ++ last_at n in
      let block = token_at brace (sign "{") ∷ (laid start (line_lexemes outputs) ++ (token_at end (sign "}") ∷ more)) in
      ap (λ ts. subsections_of 8 (0 ∷ []) (token_at at (sign "OUTPUTS") ∷ token_at brace (sign "{") ∷ ts)) (laid-append start (line_lexemes outputs) (guarantee_lexemes names f) (last_at n))
      ∙ section-step 7 (0 ∷ []) _ (token_at at (sign "OUTPUTS")) block more (end_at (suc n) ∷ []) (Outputs (singles start outputs)) (line_from next ∷ []) refl
      (ap (λ r. r >>= λ (ds, ts). Done (Outputs ds, ts)) (names-read brace start end outputs more)) (guarantee_read next n)

  -- the offsets of the lists and of the line, where MAIN's first heading stands at `at`
  abbrev offsets : ℕ → ℕ × ℕ × ℕ
  offsets at =
      let first = ending at (sign "INPUTS" ∷ sign "{" ∷ []) in
      let second = ending (ending first (line_lexemes inputs)) (sign "}" ∷ sign "OUTPUTS" ∷ sign "{" ∷ []) in
      let third = ending (ending second (line_lexemes outputs)) (sign "}" ∷ sign "GUARANTEE" ∷ sign "{" ∷ []) in
      (first, second, third)

  main-read : (at n : ℕ) → subsections_of 9 [] (laid at (sign "INPUTS" ∷ sign "{" ∷ (line_lexemes inputs ++ output_lexemes outputs names f)) ++ last_at n)
      ≡ Done (main_for inputs outputs names f (offsets at), end_at (suc n) ∷ [])
  unfolding ◌>>=◌
  main-read at n =
      let brace = past (sign "INPUTS") at in
      let start = past (sign "{") brace in
      let end = ending start (line_lexemes inputs) in
      let next = past (sign "}") end in
      let more = laid next listed ++ last_at n in
      let block = token_at brace (sign "{") ∷ (laid start (line_lexemes inputs) ++ (token_at end (sign "}") ∷ more)) in
      ap (λ ts. subsections_of 9 [] (token_at at (sign "INPUTS") ∷ token_at brace (sign "{") ∷ ts)) (laid-append start (line_lexemes inputs) (output_lexemes outputs names f) (last_at n))
      ∙ section-step 8 [] _ (token_at at (sign "INPUTS")) block more (end_at (suc n) ∷ []) (Inputs (singles start inputs)) _ refl
      (ap (λ r. r >>= λ (ds, ts). Done (Inputs ds, ts)) (names-read brace start end inputs more)) (outputs-read next n)

-- INFO computes
info-read : (m : Model) (ts : Tokens) → info_of (laid 0 (info_lexemes m) ++ ts) ≡ Done (plain_spec m (token_at 80 (sign (model_word m))) [], ts)
unfolding ◌>>=◌
info-read Mealy ts = refl
info-read Moore ts = refl

-- what is read behind INFO, and behind MAIN's subsections
abbrev behind_main : Spec → List Subsection → Tokens → Result Spec
behind_main s m ts =
    expect_of End ts >>= λ (w, ts).
    Done (record { semantics = s.semantics; strict = s.strict; target = s.target; target_word = s.target_word; parameters = s.parameters; definitions = s.definitions; main = m })

abbrev behind_info : Spec → Tokens → Result Spec
behind_info s ts =
    global_of s ts >>= λ (s, ts). expect "MAIN" ts >>= λ (w, ts). expect "{" ts >>= λ (w, ts). subsections_of 9 [] ts >>= λ (m, ts). behind_main s m ts

module _ (m : Model) (inputs outputs names : List (List ℕ)) (f : Formula) where
  -- where MAIN stands, and its first heading
  abbrev main_at : ℕ
  main_at = ending 0 (info_lexemes m)

  abbrev heading_at : ℕ
  heading_at = ending main_at (sign "MAIN" ∷ sign "{" ∷ [])

  -- the word of TARGET, and the places of the lists and of the line
  abbrev pub word_for : Token
  word_for = token_at 80 (sign (model_word m))

  abbrev pub places_for : ℕ × ℕ × ℕ
  places_for = offsets inputs outputs names f heading_at

  -- the written text's tree
  abbrev pub spec_for : Spec
  spec_for = plain_spec m word_for (main_for inputs outputs names f places_for)

  pub spec_read : (n : ℕ) → spec_of (laid 0 (basic_lexemes m inputs outputs names f) ++ last_at n) ≡ Done spec_for
  unfolding ◌>>=◌
  spec_read n =
      let s = plain_spec m (token_at 80 (sign (model_word m))) [] in
      ap spec_of (laid-append 0 (info_lexemes m) (main_lexemes inputs outputs names f) (last_at n))
      ∙ ap (λ r. r >>= λ (s, ts). behind_info s ts) (info-read m (laid main_at (main_lexemes inputs outputs names f) ++ last_at n))
      ∙ ap (λ r. r >>= λ (m, ts). behind_main s m ts) (main-read inputs outputs names f heading_at n)

  -- the written text's tokens
  pub text-tokens : All Alone (basic_lexemes m inputs outputs names f) →
      let xs = basic_lexemes m inputs outputs names f in
      tokens (parted (basic_tokens m inputs outputs names f)) ≡ laid 0 xs ++ last_at (ending 0 xs)
  text-tokens h =
      let xs = basic_lexemes m inputs outputs names f in
      ap tokens (basic_each m inputs outputs names f) ∙ lexed xs h 0 (ascii "}")
