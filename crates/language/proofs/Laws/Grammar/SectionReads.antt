-- Readers of a text's sections up to MAIN go about their tokens as ReaderLaws says.
use Rattle.std.specs.Prelude.{ℕ, suc, [], Bool, true, false, ◌≡◌, refl, length}
use Prim.Native.String.{String}
use Rattle.std.proofs.Common.{ap, arith}
use Rattle.node.specs.Result.{Done, ◌>>=◌}
use Rattle.node.proofs.ResultLaws.{bind_refused}
use Rattle.language.specs.Tokens.{Name, Quoted, Token, is_of, is}
use Rattle.language.specs.Operators.{loosest}
use Rattle.language.specs.Tree.{Expr, Definition, Defined, Enumerated, Parameter, Declaration, OneSignal, OfWidth, OfType, Model, Mealy, Moore, Spec}
use Rattle.language.specs.Grammar.{Tokens, Read, front, rest, stop, expect, expect_of, operand_of, expr}
use Rattle.language.specs.Sections.{expression, described, model_of, strict_of, tags_of, info_end, info_of, parameter_of, identifiers_of, enumeration_of, definition_of, declaration_of, optional, global_of}
use Rattle.language.proofs.Laws.Basics.Lists.{Any}
use Rattle.language.proofs.Laws.Grammar.TreeTokens.{InExpr, InParameter, InDefinition, InDeclaration, InSpec}
use Rattle.language.proofs.Laws.Grammar.Lookahead.{inner_of}
use Rattle.language.proofs.Laws.Grammar.ReaderLaws.{Reads, rephrase, weaken, some_taken, done}
use Rattle.language.proofs.Laws.Grammar.ReadersInRow.{bind_before, bind, choose, take, one, one_of}
use Rattle.language.proofs.Laws.Grammar.TokenReads.{is-inner, sign, plain, Is, Follows, follows_at, brace, bracket, expect-reads, expect_of-reads}
use Rattle.language.proofs.Laws.Grammar.ExprReads.{truth}
use Rattle.language.proofs.Laws.Grammar.GrammarLaws.{up_to-reads}
use Rattle.language.proofs.Laws.Grammar.ListReads.{tags_of-reads, identifiers_of-reads, optional-reads}

-- of no tokens none of them reads anything
pub expression_none : expression [] ≡ stop []
expression_none = bind_refused (operand_of 0 (λ m us. expr 0 m us) loosest []) 4 0 _ refl

pub parameter_none : parameter_of [] ≡ stop []
parameter_none = bind_refused (expect_of Name []) 4 0 _ refl

pub definition_none : definition_of [] ≡ stop []
definition_none = bind_refused (parameter_of []) 4 0 _ parameter_none

pub declaration_none : declaration_of [] ≡ stop []
declaration_none = bind_refused (expect_of Name []) 4 0 _ refl

module _ (P : Token → Type 0) (b : ℕ) (ts : Tokens) where
  pub expression-reads : Reads Expr P (InExpr P) (Is truth) (Follows loosest) b 1 ts (expression ts) (λ k us. expression us)
  expression-reads = up_to-reads P (suc (length ts)) loosest b ts (omega arith)

module _ (P : Token → Type 0) (b : ℕ) (ts : Tokens) where
  parameter_of-reads : Reads Parameter P (InParameter P) (Is (plain Name)) (Is (sign "}")) b 1 ts (parameter_of ts) (λ k us. parameter_of us)
  parameter_of-reads =
      bind (expect_of Name ts) _ _ (expect_of-reads b ts Name refl refl) λ x rs l. some_taken
      (bind (expect "=" rs) _ _ (expect-reads b rs "=") λ c rs₂ l₂. some_taken
      (bind_before (expression rs₂) (follows_at brace) _ _ (expression-reads P b rs₂) λ e rs₃ l₃.
      done (record { name = x; value = e }) (λ ve _ v. (v, ve))))

  enumeration-reads : Reads Definition P (InDefinition P) (Is (plain Name)) (Is (sign "}")) b 1 ts (enumeration_of ts) (λ k us. enumeration_of us)
  enumeration-reads =
      bind (expect_of Name ts) _ _ (expect_of-reads b ts Name refl refl) λ x rs l. some_taken
      (bind (expect "=" rs) _ _ (expect-reads b rs "=") λ c rs₂ l₂. some_taken
      (bind (identifiers_of (length rs₂) rs₂) _ _ (identifiers_of-reads P b rs₂) λ is rs₃ l₃.
      done (Enumerated x is) (λ vs _ v. (v, vs))))

  described-reads : {W : Token → Type 0} (word : String) → Reads Token P Any (Is (sign word)) W b 1 ts (described word ts) (λ k us. described word us)
  described-reads word =
      bind (expect word ts) _ _ (expect-reads b ts word) λ w rs l. some_taken
      (bind (expect ":" rs) _ _ (expect-reads b rs ":") λ c rs₂ l₂.
      weaken _ (omega arith) (omega arith) (λ _ _ _ _. tt) (expect_of-reads b rs₂ Quoted refl refl))

  model_of-reads : {W : Token → Type 0} → Reads Model P Any (Is (sign "Moore")) W b 1 ts (model_of ts) (λ k us. model_of us)
  model_of-reads =
      choose (is "Mealy") (λ t e. ap (is "Mealy") e) (λ e. one ts (λ _. Mealy) (is-inner "Mealy" (front ts) e) (λ _ _. tt))
      (λ _. one_of (is "Moore") (λ _. Moore) (sign "Moore") ts refl (is-inner "Moore") (λ _ _. tt))

  strict_of-reads : Reads Bool P Any (Is (sign "TARGET")) (Is (sign "TARGET")) b 0 ts (strict_of ts) (λ k us. strict_of us)
  strict_of-reads =
      choose (is ",") (λ t e. ap (is ",") e)
      (λ i. take {b' = b} ts _ (is-inner "," (front ts) i) (omega arith) (omega arith) (bind (expect "Strict" (rest ts)) _ _ (expect-reads b (rest ts) "Strict") λ w rs l. done true (λ _ _. tt)))
      (λ _. done false tt)

  info_end-reads : {W : Token → Type 0} → Reads Token P Any (Is (sign "}")) W b 1 ts (info_end ts) (λ k us. info_end us)
  info_end-reads =
      choose (is "TAGS") (λ t e. ap (is "TAGS") e)
      (λ i. take {b' = b} ts _ (is-inner "TAGS" (front ts) i) (omega arith) (omega arith)
      (bind (expect ":" (rest ts)) _ _ (expect-reads b (rest ts) ":") λ c rs l. some_taken
      (bind_before (tags_of (length rs) rs) (λ t e. ap (is ",") e) _ _ (tags_of-reads P b rs) λ t rs₂ l₂.
      weaken _ (omega arith) (omega arith) (λ _ _ _ _ _. tt) (expect-reads b rs₂ "}"))))
      (λ _. weaken _ (omega arith) (omega arith) (λ _ _. tt) (expect-reads b ts "}"))

module _ (P : Token → Type 0) (b : ℕ) (ts : Tokens) where
  definition_of-reads : Reads Definition P (InDefinition P) (Is (plain Name)) (Is (sign "}")) b 1 ts (definition_of ts) (λ k us. definition_of us)
  definition_of-reads =
      choose (is "enum") (λ t e. ap (is "enum") e)
      (λ i. take {b' = b} {d' = 0} ts _ (is-inner "enum" (front ts) i) (omega arith) (omega arith) (weaken _ (omega arith) (omega arith) (λ a q _. q) (enumeration-reads P b (rest ts))))
      (λ _. bind (parameter_of ts) _ _ (parameter_of-reads P b ts) λ x rs l. done (Defined x.name x.value) (λ v. v))

  pub declaration_of-reads : Reads Declaration P (InDeclaration P) (Is (plain Name)) (Is (sign "}")) b 1 ts (declaration_of ts) (λ k us. declaration_of us)
  declaration_of-reads =
      bind (expect_of Name ts) _ _ (expect_of-reads b ts Name refl refl) λ x rs l.
      choose (is "[") (λ t e. ap (is "[") e)
      (λ i. take {b' = b} rs _ (is-inner "[" (front rs) i) (omega arith) (omega arith)
      (bind_before (expression (rest rs)) (follows_at bracket) _ _ (expression-reads P b (rest rs)) λ e rs₂ l₂. some_taken
      (bind (expect "]" rs₂) _ _ (expect-reads b rs₂ "]") λ c rs₃ l₃.
      done (OfWidth x e) (λ _ ve _ v. (v, ve)))))
      (λ _. choose (is_of Name) (λ t e. ap (is_of Name) e)
      (λ e. some_taken (one {b = b} rs (λ u. OfType x u) (inner_of Name (front rs) refl e) (λ u w v. (v, w))))
      (λ _. done (OneSignal x) (λ v. v)))

-- the target's word, which is kept, and the end of INFO
abbrev model_by : {A : Type 0} → (Model → A) → Bool → Bool → Tokens → Read A
model_by f c d ts = elim c [ true ↦ Done (f Mealy, rest ts) | false ↦ elim d [ true ↦ Done (f Moore, rest ts) | false ↦ stop ts ] ]

abbrev target_of : Tokens → Read (Model × Token)
target_of ts = model_by (λ m. (m, front ts)) (is "Mealy" (front ts)) (is "Moore" (front ts)) ts

target_of_reads : {P W : Token → Type 0} (b : ℕ) (ts : Tokens) → Reads (Model × Token) P (λ x. P x.1) (Is (sign "Moore")) W b 1 ts (target_of ts) (λ k us. target_of us)
target_of_reads b ts =
    choose (is "Mealy") (λ t e. ap (is "Mealy") e) (λ e. one ts (λ t. (Mealy, t)) (is-inner "Mealy" (front ts) e) (λ t p. p))
    (λ _. one_of (is "Moore") (λ t. (Moore, t)) (sign "Moore") ts refl (is-inner "Moore") (λ t p. p))

target-kept : {A : Type 0} (ts : Tokens) (K : Model → Token → Tokens → Read A) → (model_of ts >>= λ (m, us). K m (front ts) us) ≡ (target_of ts >>= λ (x, us). K x.0 x.1 us)
unfolding ◌>>=◌
target-kept {A} ts K = go (is "Mealy" (front ts)) (is "Moore" (front ts))
  where
    go : (c d : Bool) → (model_by (λ m. m) c d ts >>= λ (m, us). K m (front ts) us) ≡ (model_by {A = Model × Token} (λ m. (m, front ts)) c d ts >>= λ (x, us). K x.0 x.1 us)
    go true d = refl
    go false true = refl
    go false false = refl

pub info_of-reads : {W : Token → Type 0} (P : Token → Type 0) (b : ℕ) (ts : Tokens) → Reads Spec P (InSpec P) (Is (sign "INFO")) W b 1 ts (info_of ts) (λ k us. info_of us)
info_of-reads P b ts =
    bind (expect "INFO" ts) _ _ (expect-reads b ts "INFO") λ _ r₁ l₁. some_taken
    (bind (expect "{" r₁) _ _ (expect-reads b r₁ "{") λ _ r₂ l₂. some_taken
    (bind (described "TITLE" r₂) _ _ (described-reads P b r₂ "TITLE") λ _ r₃ l₃. some_taken
    (bind (described "DESCRIPTION" r₃) _ _ (described-reads P b r₃ "DESCRIPTION") λ _ r₄ l₄. some_taken
    (bind (expect "SEMANTICS" r₄) _ _ (expect-reads b r₄ "SEMANTICS") λ _ r₅ l₅. some_taken
    (bind (expect ":" r₅) _ _ (expect-reads b r₅ ":") λ _ r₆ l₆. some_taken
    (bind (model_of r₆) _ _ (model_of-reads P b r₆) λ m r₇ l₇.
    bind (strict_of r₇) _ _ (strict_of-reads P b r₇) λ s r₈ l₈. some_taken
    (bind (expect "TARGET" r₈) _ _ (expect-reads b r₈ "TARGET") λ _ r₉ l₉. some_taken
    (bind (expect ":" r₉) _ _ (expect-reads b r₉ ":") λ _ r l.
    let spec : Model → Token → Spec = λ n u. record { semantics = m; strict = s; target = n; target_word = u; parameters = []; definitions = []; main = [] } in
    let after : Model → Token → Tokens → Read Spec = λ n u us. info_end us >>= λ (w, vs). Done (spec n u, vs) in
    rephrase _ (target-kept r after) (λ k us. target-kept us after)
    (some_taken (bind (target_of r) _ _ (target_of_reads b r) λ x rs l'. some_taken
    (bind (info_end rs) _ _ (info_end-reads P b rs) λ w rs₂ l₂.
    done (spec x.0 x.1) (λ _ v _ _ _ _ _ _ _ _ _ _. record { target_word = v; parameters = tt; definitions = tt; main = tt }))))))))))))

-- GLOBAL, before MAIN
pub global_of-reads : (P : Token → Type 0) (s : Spec) (b : ℕ) (ts : Tokens)
    → Reads Spec P (λ x. InSpec P s → InSpec P x) (Is (sign "MAIN")) (Is (sign "MAIN")) b 0 ts (global_of s ts) (λ k us. global_of s us)
global_of-reads P s b ts =
    choose (is "GLOBAL") (λ t e. ap (is "GLOBAL") e)
    (λ i. take {b' = b} ts _ (is-inner "GLOBAL" (front ts) i) (omega arith) (omega arith)
    (bind (expect "{" (rest ts)) _ _ (expect-reads b (rest ts) "{") λ c rs l.
    bind (optional "PARAMETERS" parameter_of rs) _ _ (optional-reads parameter_of parameter_none (λ t e. ap (is "}") e) (parameter_of-reads P) "PARAMETERS" (λ t e. ap (is "PARAMETERS") e) b rs) λ ps rs₂
    l₂.
    bind (optional "DEFINITIONS" definition_of rs₂) _ _ (optional-reads definition_of definition_none (λ t e. ap (is "}") e) (definition_of-reads P) "DEFINITIONS" (λ t e. ap (is "DEFINITIONS") e) b rs₂)
    λ ds rs₃ l₃.
    some_taken (bind (expect "}" rs₃) _ _ (expect-reads b rs₃ "}") λ c rs₄ l₄.
    done _ (λ _ vd vp _ _ v. record { target_word = v.target_word; parameters = vp; definitions = vd; main = tt }))))
    (λ _. done s (λ v. v))
