-- Labels that say the same are judged alike.
use Rattle.std.specs.Prelude.{◌≡◌, ◌∷◌, ℕ, ◌<◌, List, [], length}
use Rattle.std.proofs.Common.{arith, sym, subst, inl, inr, ⊎_elim}
use Rattle.std.proofs.lemmas.Bool.{cases_lt}
use Rattle.ix_core.specs.declared.error.Error.{Error}
use Rattle.ix_core.specs.declared.fact.Profile.{Profile}
use Rattle.ix_core.specs.declared.program.Method.{Method}
use Rattle.ix_core.specs.declared.program.Program.{Program}
use Rattle.ix_core.specs.Code.{Code}
use Rattle.ix_core.specs.Formed.{Formed}
use Rattle.ix_core.specs.Tables.{method_at, body_of}
use Rattle.ix_facts.specs.Stores.{Stored, IsBelow, SayTheSame}
use Rattle.ix_flow.specs.Flow.{Point, Rules, RulesLaws, IsFlow, Anything, Avoids}
use Rattle.ix_flow.specs.Given.{judging, numbered}
use Rattle.ix_flow.proofs.GivenLabels.{all_judged}
use Rattle.ix_sign.specs.MethodRules.{method_rules}
use Rattle.ix_sign.proofs.ErrorsWeaker.{errors_weaker}
use Rattle.ix_sign.proofs.MethodLaws.{method_laws}
use Rattle.ix_errors.specs.declared.ranked.Ranked.{Ranked}
use Rattle.ix_errors.specs.ErrorList.{HasRank, IsErrorList}
use Rattle.ix_errors.proofs.Lists.{one_list, none_derived}
use Rattle.ix_cert.specs.Labellings.{loops_of}
use Rattle.ix_cert.specs.SameLabels.{SameStores, SameForMethod, SameLabels}
use Rattle.ix_cert.proofs.FormedLoops.{HasFormedLoops, formed_loops}
use Rattle.ix_verify.specs.declared.audit_answer.Audit.{Audit}
use Rattle.ix_verify.specs.declared.audit_answer.Audit.TheVariants as audit
use Rattle.ix_verify.specs.AtLabels.{Derives, label_of, FailsAt, IsErrorAt}
use Rattle.ix_verify.specs.Audited.{labels_of, FailsIn, IsErrorBelow, IsAudit}
use Rattle.ix_verify.specs.Alike.{AreSame}
use Rattle.ix_verify.proofs.FlowsBelow.{Matches, judging_suits, flow_below}
use Rattle.ix_verify.proofs.Loops.{each_loop}
use Rattle.ix_verify.proofs.Same.{same_loop, same_method}

-- ---- one method

module _ (program : Program) (profile : Profile) (number : ℕ) (formed : HasFormedLoops (body_of (method_at program number)))
    (found others : List Stored) (same : SameForMethod (method_at program number) found others) where
  abbrev R : Rules
  R = method_rules program (method_at program number) profile

  abbrev L : RulesLaws R
  L = method_laws program (method_at program number) profile

  abbrev body : Code
  body = body_of (method_at program number)

  abbrev first : ℕ → Stored × ℕ
  first = numbered R (label_of found)

  abbrev second : ℕ → Stored × ℕ
  second = numbered R (label_of others)

  says_same : (loop : ℕ) → loop < loops_of (method_at program number) → SayTheSame (label_of found loop) (label_of others loop)
  says_same loop within = same_loop (method_at program number) found others same loop within

  moved : (Own : ℕ → Type 0) (Fine : Point → Stored × ℕ → Type 0) → ((point : Point) (s t : Stored × ℕ) → IsBelow s.0 t.0 → Fine point t → Fine point s)
      → IsFlow (judging R Own) Fine first body → IsFlow (judging R Own) Fine second body
  moved Own Fine finer flow =
      let S : Rules = judging R Own in
      let every : ℕ → Type 0 = λ n. Unit {0} in
      let Kept : Point → (Stored × ℕ) × ℕ → Type 0 = λ point store. Fine point store.0 in
      let each = each_loop (Matches S every first second) body formed (λ n within. let s = says_same n within in (s.1, λ judged. s.0)) in
      all_judged S Fine second body (flow_below S Fine every Kept (λ point s t i below fine. finer point s t below fine) first second (judging_suits R L Own every (label_of found) (label_of others)) body each flow)

  pub fails_back : (loop : ℕ) → FailsAt program profile number others loop → FailsAt program profile number found loop
  fails_back loop fails flow = fails (moved (λ n. n ≡ loop) (Anything (judging R (λ n. n ≡ loop))) (λ point s t below fine. tt) flow)

  pub error_back : (error : Error) (rank : ℕ) → IsErrorAt program profile number others error rank → IsErrorAt program profile number found error rank
  error_back error rank either =
      let it : Ranked = record { error = error; rank = rank } in
      let finer : (point : Point) (s t : Stored × ℕ) → IsBelow s.0 t.0 → Avoids R (Derives program (method_at program number) number) it point t.0 → Avoids R (Derives program (method_at program number) number) it point s.0 =
      λ point s t below avoids given. avoids (errors_weaker s.0 t.0 below program (method_at program number) number error rank point given) in
      ⊎_elim
      (λ derived. inl (λ flow. derived (moved (λ n. ⊥) (λ point store. Avoids R (Derives program (method_at program number) number) it point store.0) finer flow)))
      (λ text. inr text)
      either

-- ---- all methods

same_stores_back : (stores others : List Stored) → SameStores stores others → SameStores others stores
same_stores_back [] [] same = tt
same_stores_back [] (other ∷ others) same = absurd same
same_stores_back (store ∷ stores) [] same = absurd same
same_stores_back (store ∷ stores) (other ∷ others) same = ((same.0.1, same.0.0), same_stores_back stores others same.1)

same_back : (method : Method) (stores others : List Stored) → SameForMethod method stores others → SameForMethod method others stores
same_back method stores others same = record { count = same.other; other = same.count; same = λ has. same_stores_back stores others (same.same has) }

pub same_labels_back : (methods : List Method) (labels others : List (List Stored)) → SameLabels methods labels others → SameLabels methods others labels
same_labels_back [] [] [] same = tt
same_labels_back [] [] (one ∷ others) same = absurd same
same_labels_back [] (stores ∷ labels) others same = absurd same
same_labels_back (method ∷ methods) [] others same = absurd same
same_labels_back (method ∷ methods) (stores ∷ labels) [] same = absurd same
same_labels_back (method ∷ methods) (stores ∷ labels) (one ∷ others) same = (same_back method stores one same.0, same_labels_back methods labels others same.1)

module _ (program : Program) (profile : Profile) (formed : Formed program) (found others : List (List Stored)) (same : SameLabels program.methods found others) where
  same_own : (number : ℕ) → number < length program.methods → SameForMethod (method_at program number) (labels_of found number) (labels_of others number)
  same_own number within = same_method program.methods found others number same within

  fails : (number loop : ℕ) → number < length program.methods → FailsIn program profile others number loop → FailsIn program profile found number loop
  fails number loop within = fails_back program profile number (formed_loops program formed number within) (labels_of found number) (labels_of others number) (same_own number within) loop

  error : (e : Error) (rank : ℕ) → IsErrorBelow program profile others (length program.methods) e rank → IsErrorBelow program profile found (length program.methods) e rank
  error e rank is = record {
    number = is.number;
    before = is.before;
    of = error_back program profile is.number (formed_loops program formed is.number is.before) (labels_of found is.number) (labels_of others is.number) (same_own is.number is.before) e rank is.of;
  }

-- ---- lists of the same errors

module _ (D E : Error → ℕ → Type 0) (to : (error : Error) (rank : ℕ) → D error rank → E error rank) (back : (error : Error) (rank : ℕ) → E error rank → D error rank) where
  rank_as : (error : Error) (rank : ℕ) → HasRank D error rank → HasRank E error rank
  rank_as error rank has = record { is = to error rank has.is; least = λ other given. has.least other (back error other given) }

  rank_back : (error : Error) (rank : ℕ) → HasRank E error rank → HasRank D error rank
  rank_back error rank has = record { is = back error rank has.is; least = λ other given. has.least other (to error other given) }

  list_as : (errors : List Error) → IsErrorList D errors → IsErrorList E errors
  list_as errors list = record {
    all = λ error rank given. list.all error rank (back error rank given);
    only = λ at error here. let c = list.only at error here in (c.0, rank_as error c.0 c.1);
    ordered = λ at error next rank after here there one two. list.ordered at error next rank after here there (rank_back error rank one) (rank_back next after two);
  }

no_errors : (D : Error → ℕ → Type 0) (errors : List Error) → IsErrorList D errors → (errors ≡ [] → ⊥) → ((error : Error) (rank : ℕ) → D error rank → ⊥) → ⊥
no_errors D errors list some none = some (none_derived D errors list none)

module _ (program : Program) (profile : Profile) (formed : Formed program) (found others : List (List Stored)) (same : SameLabels program.methods found others) where
  abbrev back : SameLabels program.methods others found
  back = same_labels_back program.methods found others same

  -- the first that fails is one
  one_loop : (m l n k : ℕ) → IsAudit program profile found (audit.Loop m l) → IsAudit program profile others (audit.Loop n k) → (m ≡ n) × (l ≡ k)
  one_loop m l n k (inside, fail, none, first) (inside2, fail2, none2, first2) =
      let here = fails program profile formed found others same n k inside2 fail2 in
      let there = fails program profile formed others found back m l inside fail in
      let methods : m ≡ n = ⊎_elim (λ below. absurd (none2 m l below there)) (λ rest. ⊎_elim (λ above. absurd (none n k above here)) (λ past. omega (arith, rest, past)) (cases_lt n m)) (cases_lt m n) in
      let here2 = subst (λ x. FailsIn program profile found x k) (sym methods) here in
      let there2 = subst (λ x. FailsIn program profile others x l) methods there in
      (methods, ⊎_elim (λ below. absurd (first2 l below there2)) (λ rest. ⊎_elim (λ above. absurd (first k above here2)) (λ past. omega (arith, rest, past)) (cases_lt k l)) (cases_lt l k))

  pub judged_alike : (answer other : Audit) → IsAudit program profile found answer → IsAudit program profile others other → AreSame answer other
  judged_alike audit.Clean audit.Clean one two = tt
  judged_alike audit.Clean (audit.Loop n k) one two = one.0 n k two.0 (fails program profile formed found others same n k two.0 two.1)
  judged_alike audit.Clean (audit.Errors errors) one two = no_errors (IsErrorBelow program profile others (length program.methods)) errors.items two.1 two.2 (λ e rank is. one.1 e rank (error program profile formed found others same e rank is))
  judged_alike (audit.Loop m l) audit.Clean one two = two.0 m l one.0 (fails program profile formed others found back m l one.0 one.1)
  judged_alike (audit.Loop m l) (audit.Loop n k) one two = one_loop m l n k one two
  judged_alike (audit.Loop m l) (audit.Errors errors) one two = two.0 m l one.0 (fails program profile formed others found back m l one.0 one.1)
  judged_alike (audit.Errors errors) audit.Clean one two = no_errors (IsErrorBelow program profile found (length program.methods)) errors.items one.1 one.2 (λ e rank is. two.1 e rank (error program profile formed others found back e rank is))
  judged_alike (audit.Errors errors) (audit.Loop n k) one two = one.0 n k two.0 (fails program profile formed found others same n k two.0 two.1)
  judged_alike (audit.Errors errors) (audit.Errors more) one two =
      one_list (IsErrorBelow program profile found (length program.methods)) errors.items more.items one.1
      (list_as (IsErrorBelow program profile others (length program.methods)) (IsErrorBelow program profile found (length program.methods))
      (error program profile formed found others same) (error program profile formed others found back) more.items two.1)
