-- In a text's entries every end of a big operator has a name that it ends, and no line declares a name inside one.
use Rattle.std.specs.Prelude.{ℕ, suc, ◌+◌, ◌-◌, ◌<◌, List, [], ◌∷◌, ◌++◌, Bool, true, false, ◌≡◌, refl, length}
use Rattle.std.proofs.Common.{append_assoc, sym, ◌∙◌, subst, arith}
use Rattle.std.proofs.Math.Option.{Option, none, some}
use Rattle.std.proofs.Math.Path.{ap}
use Rattle.language.specs.Tokens.{Token}
use Rattle.language.specs.Operators.{Big}
use Rattle.language.specs.Tree.{
  Expr,
  Named,
  Numeral,
  Truth,
  Index,
  Paren,
  Prefixed,
  Joined,
  Nexts,
  InWindow,
  Each,
  Between,
  Listed,
  Empty,
  Element,
  Range,
  Identifier,
  Definition,
  Defined,
  Enumerated,
  Declaration,
  OneSignal,
  OfWidth,
  OfType,
  part_code,
  Subsection,
  Inputs,
  Outputs,
  Lines,
  Spec,
}
use Rattle.entries.specs.Kinds as Kind
use Rattle.entries.specs.Flat.{Entry, under, leaf, flat, each, flat_parameter, flat_identifier, flat_definition, flat_declaration, flat_line, flat_subsection, outline}
use Rattle.names.specs.Roles.{binds, ends, declares, Quiet}
use Rattle.names.specs.QuietLaws.{quiet_truth, quiet_before, quiet_joining, quiet_window, quiet_between, ending-big}

-- with d names of big operators open
unfoldable pub Balanced : ℕ → List Entry → Type 0
Balanced d [] = Unit {0}
Balanced d (n ∷ es) =
    elim (binds n.kind) [
      | true ↦ Balanced (suc d) es
      | false ↦ elim (ends n.kind) [
        | true ↦ (0 < d) × Balanced (d - 1) es
        | false ↦ elim (declares Kind.parameter n.kind) [ true ↦ (d ≡ 0) × Balanced d es | false ↦ Balanced d es ]
      ]
    ]

-- what an entry's kind makes of it
module _ (d : ℕ) (n : Entry) (es : List Entry) where
  abbrev Rest : Bool → Bool → Bool → Type 0
  Rest b e c = elim b as (λ x. Type 0) [
    | true ↦ Balanced (suc d) es
    | false ↦ elim e as (λ x. Type 0)
        [ true ↦ (0 < d) × Balanced (d - 1) es | false ↦ elim c as (λ x. Type 0) [ true ↦ (d ≡ 0) × Balanced d es | false ↦ Balanced d es ] ]
  ]

  whole : {b e c : Bool} → binds n.kind ≡ b → ends n.kind ≡ e → declares Kind.parameter n.kind ≡ c → Balanced d (n ∷ es) ≡ Rest b e c
  unfolding Balanced
  whole {b} {e} {c} x y z =
      ap (λ b. Rest b (ends n.kind) (declares Kind.parameter n.kind)) x ∙ ap (λ e. Rest b e (declares Kind.parameter n.kind)) y ∙ ap (λ c. Rest b e c) z

-- in front of balanced entries: one that does nothing to names, a big operator's name, its end, a line's own
module _ (d : ℕ) (n : Entry) (es : List Entry) where
  pub balanced_quiet : binds n.kind ≡ false → ends n.kind ≡ false → declares Kind.parameter n.kind ≡ false → Balanced d es → Balanced d (n ∷ es)
  balanced_quiet x y z h = subst (λ T. T) (sym (whole d n es x y z)) h

  balanced_binder : binds n.kind ≡ true → Balanced (suc d) es → Balanced d (n ∷ es)
  balanced_binder x h = subst (λ T. T) (sym (whole d n es x refl refl)) h

  balanced_end : binds n.kind ≡ false → ends n.kind ≡ true → 0 < d → Balanced (d - 1) es → Balanced d (n ∷ es)
  balanced_end x y l h = subst (λ T. T) (sym (whole d n es x y refl)) (l, h)

  balanced_declared : binds n.kind ≡ false → ends n.kind ≡ false → declares Kind.parameter n.kind ≡ true → d ≡ 0 → Balanced d es → Balanced d (n ∷ es)
  balanced_declared x y z e h = subst (λ T. T) (sym (whole d n es x y z)) (e, h)

  -- and taken apart
  pub after_binder_lem : binds n.kind ≡ true → Balanced d (n ∷ es) → Balanced (suc d) es
  after_binder_lem x h = subst (λ T. T) (whole d n es x refl refl) h

  pub after-end : binds n.kind ≡ false → ends n.kind ≡ true → Balanced d (n ∷ es) → (0 < d) × Balanced (d - 1) es
  after-end x y h = subst (λ T. T) (whole d n es x y refl) h

  pub after-declared : binds n.kind ≡ false → ends n.kind ≡ false → declares Kind.parameter n.kind ≡ true → Balanced d (n ∷ es) → (d ≡ 0) × Balanced d es
  after-declared x y z h = subst (λ T. T) (whole d n es x y z) h

  pub after_quiet : binds n.kind ≡ false → ends n.kind ≡ false → declares Kind.parameter n.kind ≡ false → Balanced d (n ∷ es) → Balanced d es
  after_quiet x y z h = subst (λ T. T) (whole d n es x y z) h

-- entries that leave as many names open as there were
abbrev Closed : List Entry → Type 0
Closed ops = (d : ℕ) (es : List Entry) → Balanced d es → Balanced d (ops ++ es)

both : (xs ys : List Entry) → Closed xs → Closed ys → Closed (xs ++ ys)
both xs ys f g d es h = subst (Balanced d) (sym (append_assoc xs ys es)) (f d (ys ++ es) (g d es h))

closed-under : (k : ℕ) (t : Option Token) (ops : List Entry) → binds k ≡ false → ends k ≡ false → declares Kind.parameter k ≡ false → Closed ops → Closed (under k t ops)
closed-under k t ops x y z f d es h =
    let own : Entry = record { kind = k; token = t; size = suc (length ops) } in
    subst (Balanced d) (sym (append_assoc ops (own ∷ []) es)) (f d (own ∷ es) (balanced_quiet d own es x y z h))

quiet_under : (k : ℕ) (t : Option Token) (ops : List Entry) → Quiet k → Closed ops → Closed (under k t ops)
quiet_under k t ops q f = closed-under k t ops q.no_binder q.no_end q.no_declared f

closed-each : (t : Token) (o : Big) (further : Bool) (i : Token) (s e : Expr) → Closed (flat s) → Closed (flat e) → Closed (flat (Each t o further i s e))
closed-each t o further i s e f g d es h =
    let same : d ≡ suc d - 1 = omega arith in
    let binder : Entry = record { kind = Kind.binder further; token = some i; size = suc (length (flat s)) } in
    let set = under (Kind.binder further) (some i) (flat s) in
    let end : Entry = record { kind = Kind.big o; token = some t; size = suc (length (set ++ flat e)) } in
    subst (Balanced d) (sym (append_assoc (set ++ flat e) (end ∷ []) es))
    (subst (Balanced d) (sym (append_assoc set (flat e) (end ∷ es)))
    (subst (Balanced d) (sym (append_assoc (flat s) (binder ∷ []) (flat e ++ end ∷ es)))
    (f d (binder ∷ (flat e ++ end ∷ es)) (balanced_binder d binder (flat e ++ end ∷ es) (binding further)
    (g (suc d) (end ∷ es) (balanced_end (suc d) end es (ending-big o).no_binder (ending-big o).is-end (omega arith) (subst (λ m. Balanced m es) same h)))))))
  where
    binding : (further : Bool) → binds (Kind.binder further) ≡ true
    binding false = refl
    binding true = refl

closed-flat : (e : Expr) → Closed (flat e)
closed-flat (Named t) = closed-under Kind.named (some t) [] refl refl refl (λ d es h. h)
closed-flat (Numeral t) = closed-under Kind.numeral (some t) [] refl refl refl (λ d es h. h)
closed-flat (Truth t b) = quiet_under Kind.truth (some t) [] quiet_truth (λ d es h. h)
closed-flat (Index t e) = closed-under Kind.index (some t) (flat e) refl refl refl (closed-flat e)
closed-flat (Paren t e) = closed-under Kind.paren (some t) (flat e) refl refl refl (closed-flat e)
closed-flat (Prefixed t o e) = quiet_under (Kind.before o) (some t) (flat e) (quiet_before o) (closed-flat e)
closed-flat (Joined t o a b) = quiet_under (Kind.joining o) (some t) (flat a ++ flat b) (quiet_joining o) (both (flat a) (flat b) (closed-flat a) (closed-flat b))
closed-flat (Nexts t n e) = closed-under Kind.nexts (some t) (flat n ++ flat e) refl refl refl (both (flat n) (flat e) (closed-flat n) (closed-flat e))
closed-flat (InWindow t o n m e) =
    quiet_under Kind.window (some t) (flat n ++ (flat m ++ flat e)) quiet_window
    (both (flat n) (flat m ++ flat e) (closed-flat n) (both (flat m) (flat e) (closed-flat m) (closed-flat e)))
closed-flat (Each t o further i s e) = closed-each t o further i s e (closed-flat s) (closed-flat e)
closed-flat (Between t l h a b) = quiet_under (Kind.between h) (some t) (flat a ++ flat b) (quiet_between h) (both (flat a) (flat b) (closed-flat a) (closed-flat b))
closed-flat (Listed t es) = closed-under Kind.listed (some t) (flat es) refl refl refl (closed-flat es)
closed-flat Empty = λ d es h. h
closed-flat (Element e es) = closed-under Kind.element none (flat e ++ flat es) refl refl refl (both (flat e) (flat es) (closed-flat e) (closed-flat es))
closed-flat (Range t x y z) =
    closed-under Kind.range (some t) (flat x ++ (flat y ++ flat z)) refl refl refl
    (both (flat x) (flat y ++ flat z) (closed-flat x) (both (flat y) (flat z) (closed-flat y) (closed-flat z)))

-- lines: with no name open
abbrev Whole : List Entry → Type 0
Whole ops = (es : List Entry) → Balanced 0 es → Balanced 0 (ops ++ es)

own_line : (k : ℕ) (t : Option Token) (ops : List Entry) → binds k ≡ false → ends k ≡ false → declares Kind.parameter k ≡ true → Whole ops → Whole (under k t ops)
own_line k t ops x y z f es h =
    let own : Entry = record { kind = k; token = t; size = suc (length ops) } in
    subst (Balanced 0) (sym (append_assoc ops (own ∷ []) es)) (f (own ∷ es) (balanced_declared 0 own es x y z refl h))

whole_each : {A : Type 0} (f : A → List Entry) → ((a : A) → Whole (f a)) → (xs : List A) → Whole (each f xs)
whole_each f g [] es h = h
whole_each f g (a ∷ xs) es h = subst (Balanced 0) (sym (append_assoc (f a) (each f xs) es)) (g a (each f xs ++ es) (whole_each f g xs es h))

whole-expr : (e : Expr) → Whole (flat e)
whole-expr e = closed-flat e 0

whole_word : (w : Token) → Whole (leaf Kind.word w)
whole_word w es h = balanced_quiet 0 (record { kind = Kind.word; token = some w; size = 1 }) es refl refl refl h

whole-identifier : (i : Identifier) → Whole (flat_identifier i)
whole-identifier i es h = own_line Kind.identifier (some i.name) [] refl refl refl (λ es h. h) _ (whole_each (leaf Kind.word) whole_word i.words es h)

whole-definition : (x : Definition) → Whole (flat_definition x)
whole-definition (Defined x e) = own_line Kind.definition (some x) (flat e) refl refl refl (whole-expr e)
whole-definition (Enumerated x is) = λ es h. own_line Kind.enumeration (some x) [] refl refl refl (λ es h. h) _ (whole_each flat_identifier whole-identifier is es h)

whole_declaration : (x : Declaration) → Whole (flat_declaration x)
whole_declaration (OneSignal x) = own_line Kind.signal (some x) [] refl refl refl (λ es h. h)
whole_declaration (OfWidth x e) = own_line Kind.bus (some x) (flat e) refl refl refl (whole-expr e)
whole_declaration (OfType u x) = own_line Kind.typed (some x) (leaf Kind.named u) refl refl refl (λ es h. balanced_quiet 0 (record { kind = Kind.named; token = some u; size = 1 }) es refl refl refl h)

whole-line : (e : Expr) → Whole (flat_line e)
whole-line e es h = closed-under Kind.line none (flat e) refl refl refl (closed-flat e) 0 es h

whole_subsection : (x : Subsection) → Whole (flat_subsection x)
whole_subsection (Inputs ds) es h =
    balanced_quiet 0 (record { kind = Kind.heading; token = none; size = 0 }) (each flat_declaration ds ++ es) refl refl refl (whole_each flat_declaration whole_declaration ds es h)
whole_subsection (Outputs ds) es h =
    balanced_quiet 0 (record { kind = Kind.heading; token = none; size = 1 }) (each flat_declaration ds ++ es) refl refl refl (whole_each flat_declaration whole_declaration ds es h)
whole_subsection (Lines p fs) es h =
    balanced_quiet 0 (record { kind = Kind.heading; token = none; size = (2 + part_code p) }) (each flat_line fs ++ es) refl refl refl (whole_each flat_line whole-line fs es h)

none_open : Balanced 0 []
unfolding Balanced
none_open = tt

pub balanced_outline : (x : Spec) → Balanced 0 (outline x)
balanced_outline x =
    whole_each flat_parameter (λ p. own_line Kind.parameter (some p.name) (flat p.value) refl refl refl (whole-expr p.value)) x.parameters _
    (whole_each flat_definition whole-definition x.definitions _ (main x.main))
  where
    main : (ss : List Subsection) → Balanced 0 (each flat_subsection ss)
    main [] = none_open
    main (s ∷ ss) = whole_subsection s (each flat_subsection ss) (main ss)
