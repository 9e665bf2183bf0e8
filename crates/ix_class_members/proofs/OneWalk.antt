-- A walk over all methods finds what walks over the methods of each class do.
use Rattle.std.proofs.Common.{◌≡◌, ℕ, ◌==◌, Bool, true, false, not, ◌&&◌, ◌||◌, List, [], ◌∷◌, bytes_eq, refl, sym, ◌∙◌, ap, arith}
use Rattle.std.specs.List.{list_any}
use Rattle.std.proofs.lemmas.Bool.Decides.{nat_tests}
use Rattle.ix_meaning.specs.declared.members.Signature.{Signature}
use Rattle.ix_meaning.specs.Classes.{is_among}
use Rattle.ix_meaning.specs.Members.{is_method_named}
use Rattle.ix_meaning.specs.Inheritance.{clashes_with, clashes_in}
use Rattle.ix_class_members.specs.Overriding.{clashes_there, some_clashes}

none_of_none : (m : Signature) (classes : List ℕ) → list_any (clashes_in [] m) classes ≡ false
none_of_none m [] = refl
none_of_none m (c ∷ cs) = none_of_none m cs

mixed : (p q r s : Bool) → ((p || q) || (r || s)) ≡ ((p || r) || (q || s))
mixed true q true s = refl
mixed true q false s = refl
mixed false true true s = refl
mixed false true false s = refl
mixed false false r s = refl

any_or : (p q : ℕ → Bool) (cs : List ℕ) → list_any (λ c. p c || q c) cs ≡ (list_any p cs || list_any q cs)
any_or p q [] = refl
any_or p q (c ∷ cs) = ap (λ b. (p c || q c) || b) (any_or p q cs) ∙ mixed (p c) (q c) (list_any p cs) (list_any q cs)

eqb_swap : (a b : ℕ) → (a == b) ≡ (b == a)
eqb_swap a b = grind (arith, nat_tests)

none_here : (c n x y : Bool) → (c && (n && (x && false))) ≡ false
none_here true true true y = refl
none_here true true false y = refl
none_here true false x y = refl
none_here false n x y = refl

one_more : (e f n x c : Bool) → (((e && (n && x)) && c) || (c && (n && (x && f)))) ≡ (c && (n && (x && (e || f))))
one_more true f true true true = refl
one_more true true true true false = refl
one_more true false true true false = refl
one_more true f true false true = refl
one_more true f true false false = refl
one_more true f false x true = refl
one_more true f false x false = refl
one_more false f n x c = refl

-- the classes in which one method clashes
one_method : (m other : Signature) (cs : List ℕ) → list_any (λ c. is_method_named c m.name other && clashes_with m other) cs ≡ clashes_there m cs other
one_method m other [] = sym (none_here (clashes_with m other) (not other.constructor) (bytes_eq other.name m.name) true)
one_method m other (c ∷ cs) =
    ap (λ b. (is_method_named c m.name other && clashes_with m other) || b) (one_method m other cs)
    ∙ one_more (other.class == c) (is_among other.class cs) (not other.constructor) (bytes_eq other.name m.name) (clashes_with m other)
    ∙ ap (λ b. clashes_with m other && (not other.constructor && (bytes_eq other.name m.name && (b || is_among other.class cs)))) (eqb_swap other.class c)

pub same_clashes : (all : List Signature) (m : Signature) (classes : List ℕ) → list_any (clashes_in all m) classes ≡ some_clashes all m classes
same_clashes [] m classes = none_of_none m classes
same_clashes (other ∷ all) m classes =
    any_or (λ c. is_method_named c m.name other && clashes_with m other) (clashes_in all m) classes
    ∙ ap (λ b. b || list_any (clashes_in all m) classes) (one_method m other classes)
    ∙ ap (λ b. clashes_there m classes other || b) (same_clashes all m classes)
