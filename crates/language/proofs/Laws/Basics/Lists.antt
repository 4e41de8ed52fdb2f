-- Laws of what holds of all elements of a list.
use Rattle.std.specs.Prelude.{List, [], ◌∷◌, ◌++◌, map}
pub use Rattle.language.specs.Lists.{All}

-- nothing is asked
abbrev pub Any : {A : Type 0} → A → Type 0
Any a = Unit {0}

pub all_any : {A : Type 0} (l : List A) → All Any l
all_any [] = tt
all_any (a ∷ l) = (tt, all_any l)

pub all_more : {A : Type 0} {P Q : A → Type 0} → ((a : A) → P a → Q a) → (l : List A) → All P l → All Q l
all_more f [] h = tt
all_more f (a ∷ l) h = (f a h.0, all_more f l h.1)

pub all_map : {A B : Type 0} (P : A → Type 0) (Q : B → Type 0) (f : A → B) → ((a : A) → P a → Q (f a)) → (l : List A) → All P l → All Q (map f l)
all_map P Q f h [] u = tt
all_map P Q f h (a ∷ l) u = (h a u.0, all_map P Q f h l u.1)

pub all_append : {A : Type 0} (P : A → Type 0) (l m : List A) → All P l → All P m → All P (l ++ m)
all_append P [] m h k = k
all_append P (a ∷ l) m h k = (h.0, all_append P l m h.1 k)

pub all_right : {A : Type 0} (P : A → Type 0) (l m : List A) → All P (l ++ m) → All P m
all_right P [] m h = h
all_right P (a ∷ l) m h = all_right P l m h.1

pub all_left : {A : Type 0} (P : A → Type 0) (l m : List A) → All P (l ++ m) → All P l
all_left P [] m h = tt
all_left P (a ∷ l) m h = (h.0, all_left P l m h.1)

-- two things that hold of every element
pub all_both : {A : Type 0} {P Q R : A → Type 0} → ((a : A) → P a → Q a → R a) → (l : List A) → All P l → All Q l → All R l
all_both f [] h k = tt
all_both f (a ∷ l) h k = (f a h.0 k.0, all_both f l h.1 k.1)

-- every element of the one list with every element of the other
pub all_swap : {A B : Type 0} (R : A → B → Type 0) (l : List A) (m : List B) → All (λ a. All (R a) m) l → All (λ b. All (λ a. R a b) l) m
all_swap R [] m h = all_more (λ b _. tt) m (all_any m)
all_swap R (a ∷ l) m h = all_both (λ b r s. (r, s)) m h.0 (all_swap R l m h.1)
