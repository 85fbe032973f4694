-- The fields of a packed word are at their places.
use Rattle.std.proofs.Common.{◌≡◌, ◌≢◌, ℕ, ◌/◌, ◌^◌, ◌<◌, ◌≤◌, Option, Some, None, IsSome, IfSome, IfNone, IsSomeAnd, bit_and, sym, subst, ap, ◌∙◌, arith}
use Rattle.std.proofs.lemmas.Nat.{and_mask}
use lib.Pow.{pow_mono}
use Rattle.like_core.specs.declared.phase_word.PhaseWord.{PhaseWord}
use Rattle.like_core.specs.word.PhaseWord.{fields_of}
use Rattle.like_core.specs.word.Word.{Fields, packed, IsLawful}

-- a mask of a lawful word has at most 16 bits
pub narrow : (f : Fields) (mask : ℕ) → IsLawful f → mask < 2 ^ f.workers → mask < 2 ^ 16
narrow f mask lawful below = let wide : 2 ^ f.workers ≤ 2 ^ 16 = pow_mono lawful.few_workers in omega arith

-- the fields that stand at their places in a word
abbrev pub unpacked : ℕ → Fields
unpacked w = record {
  kind = bit_and w 3;
  workers = bit_and (w / 4) 63;
  answered = bit_and (w / 256) 65535;
  retired = bit_and (w / 16777216) 65535;
  number = w / 1099511627776;
}

-- a packed word has its fields at their places
pub unpacked-packed : (f : Fields) → IsLawful f → unpacked (packed f) ≡ f
unpacked-packed f lawful =
    let answered_is : f.answered < 2 ^ 16 = narrow f f.answered lawful lawful.answered in
    let retired_is : f.retired < 2 ^ 16 = narrow f f.retired lawful lawful.retired in
    let k = lawful.kind in
    let n = lawful.few_workers in
    let kind : bit_and (packed f) 3 ≡ f.kind = and_mask (packed f) 2 ∙ omega arith in
    let workers : bit_and (packed f / 4) 63 ≡ f.workers = and_mask (packed f / 4) 6 ∙ omega arith in
    let answered : bit_and (packed f / 256) 65535 ≡ f.answered = and_mask (packed f / 256) 16 ∙ omega arith in
    let retired : bit_and (packed f / 16777216) 65535 ≡ f.retired = and_mask (packed f / 16777216) 16 ∙ omega arith in
    let number : packed f / 1099511627776 ≡ f.number = omega arith in
    λ m. record {
      kind = kind m;
      workers = workers m;
      answered = answered m;
      retired = retired m;
      number = number m;
    }

-- where no word has the fields at the places of a number, no word packs to that number
pub none_packs : (w kind : ℕ)
    → kind ≡ bit_and w 3
    → (r : Option PhaseWord)
    → (IsLawful (record (unpacked w) { kind = kind }) → IsSome r)
    → IfNone r ((p : PhaseWord) → packed (fields_of p) ≢ w)
none_packs w kind is (Some p) some = tt
none_packs w kind is None some =
    λ p same.
    let f = fields_of p in
    let parts : f ≡ unpacked w = sym (unpacked-packed f p.lawful) ∙ ap unpacked same in
    let at_kind : ℕ → Type 0 = λ k. IsLawful (record (unpacked w) { kind = k }) in
    let found : IsSome {T = PhaseWord} None = some (subst at_kind (sym is) (subst IsLawful parts p.lawful)) in
    cc

-- a word that packs to a number is found
pub finds : (w kind : ℕ)
    → kind ≡ bit_and w 3
    → (r : Option PhaseWord)
    → (IsLawful (record (unpacked w) { kind = kind }) → IsSome r)
    → IfSome r (λ q. fields_of q ≡ record (unpacked w) { kind = kind })
    → (p : PhaseWord)
    → packed (fields_of p) ≡ w
    → IsSomeAnd r (λ q. fields_of q ≡ fields_of p)
finds w kind is (Some q) some fields p same =
    let parts : fields_of p ≡ unpacked w = sym (unpacked-packed (fields_of p) p.lawful) ∙ ap unpacked same in
    fields ∙ (ap (λ k. record (unpacked w) { kind = k }) is ∙ sym parts)
finds w kind is None some fields p same = absurd (none_packs w kind is None some p same)
