-- What holds of every tree that the grammar reads: its lines name names, and P holds of their expressions, wherever it holds of what is built of parts of which it holds.
use Rattle.std.specs.Prelude.{ℕ, zero, suc, ◌&&◌, List, [], ◌∷◌, length}
use Prim.Native.String.{String}
use Rattle.std.proofs.Math.Option.{Option, none, some}
use Rattle.language.specs.Tokens.{Name, End, is_of}
use Rattle.language.specs.Tree.{Expr, Identifier, Definition, Defined, Enumerated, Parameter, Declaration, OneSignal, OfWidth, OfType, Subsection, Inputs, Outputs, Lines, Spec}
use Rattle.language.specs.Grammar.{Tokens, Read, front, rest, next, expect, expect_of}
use Rattle.language.specs.Sections.{
  expression,
  described,
  model_of,
  strict_of,
  info_end,
  info_of,
  lines_of,
  block_of,
  parameter_of,
  words_of,
  identifiers_of,
  definition_of,
  declaration_of,
  optional,
  global_of,
  Heading,
  InputsHere,
  OutputsHere,
  LinesHere,
  HeadingRow,
  headings,
  heading_of,
  seen,
  subsection_of,
  subsections_of,
  spec_of,
}
use Rattle.language.proofs.Laws.Basics.Lists.{All}
use Rattle.language.proofs.Laws.Basics.Tests.{split}
use Rattle.language.proofs.Laws.Basics.Results.{done, refused, bind, Within, bind_any}
use Rattle.language.proofs.Laws.Grammar.MainReads.{subsections_by}
use Rattle.language.proofs.Laws.Grammar.BuiltReads.{Gives, IsName, Built, after, with, chosen, expect-name, expression-read}

-- the lines of a text: what they name is a name, and their expressions have P
abbrev pub ReadParameter : (Expr → Type 0) → Parameter → Type 0
ReadParameter P p = IsName p.name × P p.value

abbrev pub ReadIdentifier : Identifier → Type 0
ReadIdentifier i = IsName i.name

abbrev pub ReadDefinition : (Expr → Type 0) → Definition → Type 0
ReadDefinition P (Defined x e) = IsName x × P e
ReadDefinition P (Enumerated x is) = IsName x × All ReadIdentifier is

abbrev pub ReadDeclaration : (Expr → Type 0) → Declaration → Type 0
ReadDeclaration P (OneSignal x) = IsName x
ReadDeclaration P (OfWidth x e) = IsName x × P e
ReadDeclaration P (OfType u x) = IsName u × IsName x

abbrev pub ReadSubsection : (Expr → Type 0) → Subsection → Type 0
ReadSubsection P (Inputs ds) = All (ReadDeclaration P) ds
ReadSubsection P (Outputs ds) = All (ReadDeclaration P) ds
ReadSubsection P (Lines p es) = All P es

pub record ReadSpec (P : Expr → Type 0) (x : Spec) : Type 0 where
  pub parameters : All (ReadParameter P) x.parameters
  pub definitions : All (ReadDefinition P) x.definitions
  pub main : All (ReadSubsection P) x.main

-- the lines of a block
module _ {A : Type 0} (Q : A → Type 0) (line : Tokens → Read A) (good : (ts : Tokens) → Gives Q (line ts)) where
  lines_of_gives : (f : ℕ) (ts : Tokens) → Gives (All Q) (lines_of f line ts)
  lines_of_gives zero ts = refused tt
  lines_of_gives (suc f) ts =
      chosen (All Q) (next "}" ts) _ _ (done tt)
      (with (All Q) Q (line ts) _ (good ts) (λ l us h.
      chosen (All Q) (next ";" us) _ _
      (with (All Q) (All Q) (lines_of f line (rest us)) _ (lines_of_gives f (rest us)) (λ ls vs k. done (h, k)))
      (after (All Q) (expect "}" us) _ (λ c vs. done (h, tt)))))

  pub block_of_gives : (ts : Tokens) → Gives (All Q) (block_of line ts)
  block_of_gives ts = after (All Q) (expect "{" ts) _ (λ c us. lines_of_gives (length us) us)

  optional_gives : (word : String) (ts : Tokens) → Gives (All Q) (optional word line ts)
  optional_gives word ts = chosen (All Q) (next word ts) _ _ (block_of_gives (rest ts)) (done tt)

-- every reader of the sections, up to `spec_read`
module _ (P E : Expr → Type 0) (K : Built P E) where
  abbrev Param : Parameter → Type 0
  Param p = ReadParameter P p

  abbrev Defin : Definition → Type 0
  Defin d = ReadDefinition P d

  abbrev Decl : Declaration → Type 0
  Decl d = ReadDeclaration P d

  abbrev Subs : Subsection → Type 0
  Subs s = ReadSubsection P s

  abbrev Whole : Spec → Type 0
  Whole x = ReadSpec P x

  parameter_of-read : (ts : Tokens) → Gives Param (parameter_of ts)
  parameter_of-read ts =
      with Param IsName (expect_of Name ts) _ (expect-name ts) (λ x us y. after Param (expect "=" us) _ (λ c vs.
      with Param P (expression vs) _ (expression-read P E K vs) (λ e ws h. done (y, h))))

  identifiers_of-read : (f : ℕ) (ts : Tokens) → Gives (All ReadIdentifier) (identifiers_of f ts)
  identifiers_of-read zero ts = refused tt
  identifiers_of-read (suc f) ts =
      let Q = All ReadIdentifier in
      with Q IsName (expect_of Name ts) _ (expect-name ts) (λ x us y. after Q (expect ":" us) _ (λ c vs. after Q (words_of (length vs) vs) _ (λ ws xs.
      chosen Q (is_of Name (front xs)) _ _ (with Q Q (identifiers_of f xs) _ (identifiers_of-read f xs) (λ is zs k. done (y, k))) (done (y, tt)))))

  definition_of-read : (ts : Tokens) → Gives Defin (definition_of ts)
  definition_of-read ts =
      chosen Defin (next "enum" ts) _ _
      (with Defin IsName (expect_of Name (rest ts)) _ (expect-name (rest ts)) (λ x us y. after Defin (expect "=" us) _ (λ c vs.
      with Defin (All ReadIdentifier) (identifiers_of (length vs) vs) _ (identifiers_of-read (length vs) vs) (λ is ws k. done (y, k)))))
      (with Defin Param (parameter_of ts) _ (parameter_of-read ts) (λ p us h. done h))

  declaration_of-read : (ts : Tokens) → Gives Decl (declaration_of ts)
  declaration_of-read ts =
      with Decl IsName (expect_of Name ts) _ (expect-name ts) (λ x us n.
      chosen Decl (next "[" us) _ _
      (with Decl P (expression (rest us)) _ (expression-read P E K (rest us)) (λ e vs h. after Decl (expect "]" vs) _ (λ c ws. done (n, h))))
      (split (Gives Decl) (is_of Name (front us)) (λ e. done (n, e)) (λ _. done n)))

  subsection_of-read : (h : Heading) (ts : Tokens) → Gives Subs (subsection_of h ts)
  subsection_of-read InputsHere ts =
      with Subs (All Decl) (block_of declaration_of ts) _ (block_of_gives Decl declaration_of declaration_of-read ts) (λ ds us h. done h)
  subsection_of-read OutputsHere ts =
      with Subs (All Decl) (block_of declaration_of ts) _ (block_of_gives Decl declaration_of declaration_of-read ts) (λ ds us h. done h)
  subsection_of-read (LinesHere p) ts =
      with Subs (All P) (block_of expression ts) _ (block_of_gives P expression (expression-read P E K) ts) (λ es us h. done h)

  subsections_of-read : (f : ℕ) (before : List ℕ) (ts : Tokens) → Gives (All Subs) (subsections_of f before ts)
  subsections_of-read zero before ts = refused tt
  subsections_of-read (suc f) before ts = go (λ b us. subsections_of-read f b us) (heading_of headings before (front ts))
    where
      go : ((b : List ℕ) (us : Tokens) → Gives (All Subs) (subsections_of f b us)) → (o : Option HeadingRow)
          → Gives (All Subs) (subsections_by f before ts o)
      go on (some r) =
          with (All Subs) Subs (subsection_of r.heading (rest ts)) _ (subsection_of-read r.heading (rest ts)) (λ s us h.
          with (All Subs) (All Subs) (subsections_of f (r.number ∷ before) us) _ (on (r.number ∷ before) us) (λ ss vs k. done (h, k)))
      go on none =
          chosen (All Subs) (seen before 0 && seen before 1) _ _ (after (All Subs) (expect "}" ts) _ (λ c us. done tt)) (refused tt)

  info_of-read : (ts : Tokens) → Gives Whole (info_of ts)
  info_of-read ts =
      after Whole (expect "INFO" ts) _ (λ w t1. after Whole (expect "{" t1) _ (λ w t2. after Whole (described "TITLE" t2) _ (λ w t3.
      after Whole (described "DESCRIPTION" t3) _ (λ w t4. after Whole (expect "SEMANTICS" t4) _ (λ w t5. after Whole (expect ":" t5) _ (λ w t6.
      after Whole (model_of t6) _ (λ m t7. after Whole (strict_of t7) _ (λ s t8. after Whole (expect "TARGET" t8) _ (λ w t9.
      after Whole (expect ":" t9) _ (λ w t10. after Whole (model_of t10) _ (λ n t11. after Whole (info_end t11) _ (λ w t12.
      done (record { parameters = tt; definitions = tt; main = tt })))))))))))))

  global_of-read : (s : Spec) → Whole s → (ts : Tokens) → Gives Whole (global_of s ts)
  global_of-read s h ts =
      chosen Whole (next "GLOBAL" ts) _ _
      (after Whole (expect "{" (rest ts)) _ (λ c t1.
      with Whole (All Param) (optional "PARAMETERS" parameter_of t1) _ (optional_gives Param parameter_of parameter_of-read "PARAMETERS" t1) (λ ps t2 hp.
      with Whole (All Defin) (optional "DEFINITIONS" definition_of t2) _ (optional_gives Defin definition_of definition_of-read "DEFINITIONS" t2) (λ ds t3 hd.
      after Whole (expect "}" t3) _ (λ c t4. done (record { parameters = hp; definitions = hd; main = tt }))))))
      (done h)

  -- the tree of a text
  pub spec_read : (ts : Tokens) → Within Whole (spec_of ts)
  spec_read ts =
      bind (info_of ts) _ (info_of-read ts) (λ x hx.
      bind (global_of x.0 x.1) _ (global_of-read x.0 hx x.1) (λ y hy.
      bind_any (expect "MAIN" y.1) _ (λ a. bind_any (expect "{" a.1) _ (λ b.
      bind (subsections_of 9 [] b.1) _ (subsections_of-read 9 [] b.1) (λ z hz.
      bind_any (expect_of End z.1) _ (λ c. done (record { parameters = hy.parameters; definitions = hy.definitions; main = hz })))))))
