-- An operation or a test stands somewhere in a body exactly where a node of the body's graph stands for it.
use Rattle.std.proofs.Common.{◌⊎◌, inl, inr, ℕ, suc, true, false, List, [], ◌∷◌}
use Rattle.ix_core.specs.declared.op.Op.{Op}
use Rattle.ix_core.specs.declared.op.Test.{Test}
use Rattle.ix_core.specs.Code.{Code, End, Do, If, Break, Continue, Return, Throw, Loop, Condition, Known, Compare, Truth, Both, Either, Opposite}
use Rattle.ix_graph.specs.Built.{kinds_of}
use Rattle.ix_graph.specs.Graph.{Kind, Does, Compares, Onward, Through, Part, Source, Unreached, From, leads, behind_code, behind_condition, code_parts, condition_parts, method_parts}
use Rattle.ix_sign.specs.RuleErrors.{Somewhere, SomewhereAsked}

module _ (P : Op → Type 0) (Q : Test → Type 0) where
  abbrev pub Here : Kind → Type 0
  Here (Does op) = P op
  Here (Compares test) = Q test
  Here _ = ⊥

  abbrev pub InKinds : List Kind → Type 0
  InKinds [] = ⊥
  InKinds (kind ∷ kinds) = Here kind ⊎ InKinds kinds

  leads_in : (source : Source) (target : ℕ) (parts : List Part) → InKinds (kinds_of parts) → InKinds (kinds_of (leads source target parts))
  leads_in Unreached target parts has = has
  leads_in (From node pass) target parts has = has

  leads_out : (source : Source) (target : ℕ) (parts : List Part) → InKinds (kinds_of (leads source target parts)) → InKinds (kinds_of parts)
  leads_out Unreached target parts has = has
  leads_out (From node pass) target parts has = has

  mutual
    code_in : (code : Code) (at : ℕ) (source : Source) (end break continue : ℕ) (parts : List Part) → Somewhere P Q code ⊎ InKinds (kinds_of parts) → InKinds (kinds_of (code_parts code at source end break continue parts))
    code_in End at source end break continue parts (inl none) = absurd none
    code_in End at source end break continue parts (inr rest) = leads_in source end parts rest
    code_in (Do op code) at source end break continue parts (inl (inl here)) = inl here
    code_in (Do op code) at source end break continue parts (inl (inr later)) = inr (leads_in source at _ (code_in code (suc at) (From at (Through op)) end break continue parts (inl later)))
    code_in (Do op code) at source end break continue parts (inr rest) = inr (leads_in source at _ (code_in code (suc at) (From at (Through op)) end break continue parts (inr rest)))
    code_in (If asked first second code) at source end break continue parts has =
        let third = suc (suc (suc at)) in
        let holds = behind_condition asked third in
        let fails = behind_code first holds in
        inr (inr (inr (condition_in asked third source at (suc at) break continue _ (elim has [
          | inl (inl a) ↦ inl a
          | inl (inr (inl f)) ↦ inr (code_in first holds (From at Onward) (suc (suc at)) break continue _ (inl f))
          | inl (inr (inr (inl s))) ↦ inr (code_in first holds (From at Onward) (suc (suc at)) break continue _ (inr (code_in second fails (From (suc at) Onward) (suc (suc at)) break continue _ (inl s))))
          | inl (inr (inr (inr c))) ↦ inr (code_in first holds (From at Onward) (suc (suc at)) break continue _ (inr (code_in second fails (From (suc at) Onward) (suc (suc at)) break continue _ (inr (code_in code (behind_code second fails) (From (suc (suc at)) Onward) end break continue parts (inl c))))))
          | inr rest ↦ inr (code_in first holds (From at Onward) (suc (suc at)) break continue _ (inr (code_in second fails (From (suc at) Onward) (suc (suc at)) break continue _ (inr (code_in code (behind_code second fails) (From (suc (suc at)) Onward) end break continue parts (inr rest))))))
        ]))))
    code_in (Break code) at source end break continue parts (inl later) = leads_in source break _ (code_in code at Unreached end break continue parts (inl later))
    code_in (Break code) at source end break continue parts (inr rest) = leads_in source break _ (code_in code at Unreached end break continue parts (inr rest))
    code_in (Continue code) at source end break continue parts (inl later) = leads_in source continue _ (code_in code at Unreached end break continue parts (inl later))
    code_in (Continue code) at source end break continue parts (inr rest) = leads_in source continue _ (code_in code at Unreached end break continue parts (inr rest))
    code_in (Return value span code) at source end break continue parts (inl later) = inr (leads_in source at _ (code_in code (suc at) Unreached end break continue parts (inl later)))
    code_in (Return value span code) at source end break continue parts (inr rest) = inr (leads_in source at _ (code_in code (suc at) Unreached end break continue parts (inr rest)))
    code_in (Throw name span code) at source end break continue parts (inl later) = inr (leads_in source at _ (code_in code (suc at) Unreached end break continue parts (inl later)))
    code_in (Throw name span code) at source end break continue parts (inr rest) = inr (leads_in source at _ (code_in code (suc at) Unreached end break continue parts (inr rest)))
    code_in (Loop true asked body next number scope code) at source end break continue parts has =
        let first = suc (suc (suc (suc at))) in
        let second = behind_condition asked first in
        let third = behind_code body second in
        inr (inr (inr (inr (leads_in source at _ (condition_in asked first (From at Onward) (suc at) (suc (suc at)) (suc (suc at)) continue _ (elim has [
          | inl (inl a) ↦ inl a
          | inl (inr (inl f)) ↦ inr (code_in body second (From (suc at) Onward) (suc (suc (suc at))) (suc (suc at)) (suc (suc (suc at))) _ (inl f))
          | inl (inr (inr (inl s))) ↦ inr (code_in body second (From (suc at) Onward) (suc (suc (suc at))) (suc (suc at)) (suc (suc (suc at))) _ (inr (code_in next third (From (suc (suc (suc at))) Onward) at (suc (suc at)) continue _ (inl s))))
          | inl (inr (inr (inr c))) ↦ inr (code_in body second (From (suc at) Onward) (suc (suc (suc at))) (suc (suc at)) (suc (suc (suc at))) _ (inr (code_in next third (From (suc (suc (suc at))) Onward) at (suc (suc at)) continue _ (inr (code_in code (behind_code next third) (From (suc (suc at)) Onward) end break continue parts (inl c))))))
          | inr rest ↦ inr (code_in body second (From (suc at) Onward) (suc (suc (suc at))) (suc (suc at)) (suc (suc (suc at))) _ (inr (code_in next third (From (suc (suc (suc at))) Onward) at (suc (suc at)) continue _ (inr (code_in code (behind_code next third) (From (suc (suc at)) Onward) end break continue parts (inr rest))))))
        ]))))))
    code_in (Loop false asked body next number scope code) at source end break continue parts has =
        let first = suc (suc (suc (suc at))) in
        let second = behind_condition asked first in
        let third = behind_code body second in
        inr (inr (inr (inr (leads_in source at _ (condition_in asked first (From (suc at) Onward) at (suc (suc at)) (suc (suc at)) continue _ (elim has [
          | inl (inl a) ↦ inl a
          | inl (inr (inl f)) ↦ inr (code_in body second (From at Onward) (suc (suc (suc at))) (suc (suc at)) (suc (suc (suc at))) _ (inl f))
          | inl (inr (inr (inl s))) ↦ inr (code_in body second (From at Onward) (suc (suc (suc at))) (suc (suc at)) (suc (suc (suc at))) _ (inr (code_in next third (From (suc (suc (suc at))) Onward) (suc at) (suc (suc at)) continue _ (inl s))))
          | inl (inr (inr (inr c))) ↦ inr (code_in body second (From at Onward) (suc (suc (suc at))) (suc (suc at)) (suc (suc (suc at))) _ (inr (code_in next third (From (suc (suc (suc at))) Onward) (suc at) (suc (suc at)) continue _ (inr (code_in code (behind_code next third) (From (suc (suc at)) Onward) end break continue parts (inl c))))))
          | inr rest ↦ inr (code_in body second (From at Onward) (suc (suc (suc at))) (suc (suc at)) (suc (suc (suc at))) _ (inr (code_in next third (From (suc (suc (suc at))) Onward) (suc at) (suc (suc at)) continue _ (inr (code_in code (behind_code next third) (From (suc (suc at)) Onward) end break continue parts (inr rest))))))
        ]))))))

    condition_in : (asked : Condition) (at : ℕ) (source : Source) (holds fails break continue : ℕ) (parts : List Part) → SomewhereAsked P Q asked ⊎ InKinds (kinds_of parts)
        → InKinds (kinds_of (condition_parts asked at source holds fails break continue parts))
    condition_in (Known true) at source holds fails break continue parts (inl none) = absurd none
    condition_in (Known true) at source holds fails break continue parts (inr rest) = leads_in source holds parts rest
    condition_in (Known false) at source holds fails break continue parts (inl none) = absurd none
    condition_in (Known false) at source holds fails break continue parts (inr rest) = leads_in source fails parts rest
    condition_in (Compare code test) at source holds fails break continue parts (inl (inl c)) = inr (code_in code (suc at) source at break continue parts (inl c))
    condition_in (Compare code test) at source holds fails break continue parts (inl (inr q)) = inl q
    condition_in (Compare code test) at source holds fails break continue parts (inr rest) = inr (code_in code (suc at) source at break continue parts (inr rest))
    condition_in (Truth code slot) at source holds fails break continue parts (inl c) = inr (code_in code (suc at) source at break continue parts (inl c))
    condition_in (Truth code slot) at source holds fails break continue parts (inr rest) = inr (code_in code (suc at) source at break continue parts (inr rest))
    condition_in (Both first second) at source holds fails break continue parts has =
        inr (condition_in first (suc at) source at fails break continue _ (elim has [
          | inl (inl f) ↦ inl f
          | inl (inr s) ↦ inr (condition_in second (behind_condition first (suc at)) (From at Onward) holds fails break continue parts (inl s))
          | inr rest ↦ inr (condition_in second (behind_condition first (suc at)) (From at Onward) holds fails break continue parts (inr rest))
        ]))
    condition_in (Either first second) at source holds fails break continue parts has =
        inr (condition_in first (suc at) source holds at break continue _ (elim has [
          | inl (inl f) ↦ inl f
          | inl (inr s) ↦ inr (condition_in second (behind_condition first (suc at)) (From at Onward) holds fails break continue parts (inl s))
          | inr rest ↦ inr (condition_in second (behind_condition first (suc at)) (From at Onward) holds fails break continue parts (inr rest))
        ]))
    condition_in (Opposite asked) at source holds fails break continue parts has = condition_in asked at source fails holds break continue parts has

  mutual
    code_out : (code : Code) (at : ℕ) (source : Source) (end break continue : ℕ) (parts : List Part) → InKinds (kinds_of (code_parts code at source end break continue parts)) → Somewhere P Q code ⊎ InKinds (kinds_of parts)
    code_out End at source end break continue parts has = inr (leads_out source end parts has)
    code_out (Do op code) at source end break continue parts (inl here) = inl (inl here)
    code_out (Do op code) at source end break continue parts (inr has) = elim (code_out code (suc at) (From at (Through op)) end break continue parts (leads_out source at _ has)) [
      | inl later ↦ inl (inr later)
      | inr rest ↦ inr rest
    ]
    code_out (If asked first second code) at source end break continue parts (inl none) = absurd none
    code_out (If asked first second code) at source end break continue parts (inr (inl none)) = absurd none
    code_out (If asked first second code) at source end break continue parts (inr (inr (inl none))) = absurd none
    code_out (If asked first second code) at source end break continue parts (inr (inr (inr has))) =
        let third = suc (suc (suc at)) in
        let holds = behind_condition asked third in
        let fails = behind_code first holds in
        elim (condition_out asked third source at (suc at) break continue _ has) [
          | inl a ↦ inl (inl a)
          | inr one ↦ elim (code_out first holds (From at Onward) (suc (suc at)) break continue _ one) [
            | inl f ↦ inl (inr (inl f))
            | inr two ↦ elim (code_out second fails (From (suc at) Onward) (suc (suc at)) break continue _ two) [
              | inl s ↦ inl (inr (inr (inl s)))
              | inr three ↦ elim (code_out code (behind_code second fails) (From (suc (suc at)) Onward) end break continue parts three) [
                | inl c ↦ inl (inr (inr (inr c)))
                | inr rest ↦ inr rest
              ]
            ]
          ]
        ]
    code_out (Break code) at source end break continue parts has = code_out code at Unreached end break continue parts (leads_out source break _ has)
    code_out (Continue code) at source end break continue parts has = code_out code at Unreached end break continue parts (leads_out source continue _ has)
    code_out (Return value span code) at source end break continue parts (inl none) = absurd none
    code_out (Return value span code) at source end break continue parts (inr has) = code_out code (suc at) Unreached end break continue parts (leads_out source at _ has)
    code_out (Throw name span code) at source end break continue parts (inl none) = absurd none
    code_out (Throw name span code) at source end break continue parts (inr has) = code_out code (suc at) Unreached end break continue parts (leads_out source at _ has)
    code_out (Loop true asked body next number scope code) at source end break continue parts (inl none) = absurd none
    code_out (Loop true asked body next number scope code) at source end break continue parts (inr (inl none)) = absurd none
    code_out (Loop true asked body next number scope code) at source end break continue parts (inr (inr (inl none))) = absurd none
    code_out (Loop true asked body next number scope code) at source end break continue parts (inr (inr (inr (inl none)))) = absurd none
    code_out (Loop true asked body next number scope code) at source end break continue parts (inr (inr (inr (inr has)))) =
        let first = suc (suc (suc (suc at))) in
        let second = behind_condition asked first in
        let third = behind_code body second in
        elim (condition_out asked first (From at Onward) (suc at) (suc (suc at)) (suc (suc at)) continue _ (leads_out source at _ has)) [
          | inl a ↦ inl (inl a)
          | inr one ↦ elim (code_out body second (From (suc at) Onward) (suc (suc (suc at))) (suc (suc at)) (suc (suc (suc at))) _ one) [
            | inl f ↦ inl (inr (inl f))
            | inr two ↦ elim (code_out next third (From (suc (suc (suc at))) Onward) at (suc (suc at)) continue _ two) [
              | inl s ↦ inl (inr (inr (inl s)))
              | inr three ↦ elim (code_out code (behind_code next third) (From (suc (suc at)) Onward) end break continue parts three) [
                | inl c ↦ inl (inr (inr (inr c)))
                | inr rest ↦ inr rest
              ]
            ]
          ]
        ]
    code_out (Loop false asked body next number scope code) at source end break continue parts (inl none) = absurd none
    code_out (Loop false asked body next number scope code) at source end break continue parts (inr (inl none)) = absurd none
    code_out (Loop false asked body next number scope code) at source end break continue parts (inr (inr (inl none))) = absurd none
    code_out (Loop false asked body next number scope code) at source end break continue parts (inr (inr (inr (inl none)))) = absurd none
    code_out (Loop false asked body next number scope code) at source end break continue parts (inr (inr (inr (inr has)))) =
        let first = suc (suc (suc (suc at))) in
        let second = behind_condition asked first in
        let third = behind_code body second in
        elim (condition_out asked first (From (suc at) Onward) at (suc (suc at)) (suc (suc at)) continue _ (leads_out source at _ has)) [
          | inl a ↦ inl (inl a)
          | inr one ↦ elim (code_out body second (From at Onward) (suc (suc (suc at))) (suc (suc at)) (suc (suc (suc at))) _ one) [
            | inl f ↦ inl (inr (inl f))
            | inr two ↦ elim (code_out next third (From (suc (suc (suc at))) Onward) (suc at) (suc (suc at)) continue _ two) [
              | inl s ↦ inl (inr (inr (inl s)))
              | inr three ↦ elim (code_out code (behind_code next third) (From (suc (suc at)) Onward) end break continue parts three) [
                | inl c ↦ inl (inr (inr (inr c)))
                | inr rest ↦ inr rest
              ]
            ]
          ]
        ]

    condition_out : (asked : Condition) (at : ℕ) (source : Source) (holds fails break continue : ℕ) (parts : List Part) → InKinds (kinds_of (condition_parts asked at source holds fails break continue parts))
        → SomewhereAsked P Q asked ⊎ InKinds (kinds_of parts)
    condition_out (Known true) at source holds fails break continue parts has = inr (leads_out source holds parts has)
    condition_out (Known false) at source holds fails break continue parts has = inr (leads_out source fails parts has)
    condition_out (Compare code test) at source holds fails break continue parts (inl q) = inl (inr q)
    condition_out (Compare code test) at source holds fails break continue parts (inr has) = elim (code_out code (suc at) source at break continue parts has) [
      | inl c ↦ inl (inl c)
      | inr rest ↦ inr rest
    ]
    condition_out (Truth code slot) at source holds fails break continue parts (inl none) = absurd none
    condition_out (Truth code slot) at source holds fails break continue parts (inr has) = code_out code (suc at) source at break continue parts has
    condition_out (Both first second) at source holds fails break continue parts (inl none) = absurd none
    condition_out (Both first second) at source holds fails break continue parts (inr has) = elim (condition_out first (suc at) source at fails break continue _ has) [
      | inl f ↦ inl (inl f)
      | inr one ↦ elim (condition_out second (behind_condition first (suc at)) (From at Onward) holds fails break continue parts one) [
        | inl s ↦ inl (inr s)
        | inr rest ↦ inr rest
      ]
    ]
    condition_out (Either first second) at source holds fails break continue parts (inl none) = absurd none
    condition_out (Either first second) at source holds fails break continue parts (inr has) = elim (condition_out first (suc at) source holds at break continue _ has) [
      | inl f ↦ inl (inl f)
      | inr one ↦ elim (condition_out second (behind_condition first (suc at)) (From at Onward) holds fails break continue parts one) [
        | inl s ↦ inl (inr s)
        | inr rest ↦ inr rest
      ]
    ]
    condition_out (Opposite asked) at source holds fails break continue parts has = condition_out asked at source fails holds break continue parts has

  pub somewhere_node : (body : Code) → Somewhere P Q body → InKinds (kinds_of (method_parts body))
  somewhere_node body has = inr (inr (code_in body 2 (From 0 Onward) 1 1 1 [] (inl has)))

  pub node_somewhere : (body : Code) → InKinds (kinds_of (method_parts body)) → Somewhere P Q body
  node_somewhere body (inl none) = absurd none
  node_somewhere body (inr (inl none)) = absurd none
  node_somewhere body (inr (inr has)) = elim (code_out body 2 (From 0 Onward) 1 1 1 [] has) [
    | inl found ↦ found
    | inr none ↦ absurd none
  ]
