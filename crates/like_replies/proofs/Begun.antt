-- A front of a text that was written.
use Rattle.std.proofs.Common.{◌+◌, ◌++◌, ◌∙◌, ℕ, List, [], Option, Result, Ok, Err, ap, append-nil, append_assoc, drop, refl, sym, subst, take, take-append-drop}
use Rattle.std.proofs.KnownBytes.{Appends-kept, Appends-trans}
use Rattle.std.proofs.Math.Seq.{take-add}
use Rattle.std.specs.Io.KnownBytes.{Appends, Keeps}
use Rattle.like_replies.specs.Output.{HasBegun, TellsOutput, Writes}
use Rattle.like_replies.specs.declared.write_fault.WriteFault.{WriteFault}
use Rattle.like_replies.specs.declared.write_fault.WriteFault.TheVariants as write

-- the first bytes were
pub begun-first : (a b : Option (List ℕ)) (n : ℕ) (text : List ℕ) → Appends a b (take n text) → HasBegun a b text
begun-first a b n text h =
    record { front = take n text; rest = drop n text; whole = sym (take-append-drop n text); written = h }

-- the first bytes were, and more of the others
pub first-more : (a b c : Option (List ℕ)) (k n : ℕ) (text : List ℕ)
    → Appends a b (take k text)
    → Appends b c (take n (drop k text))
    → Appends a c (take (k + n) text)
first-more a b c k n text p q =
    subst (Appends a c) (sym (take-add k n text)) (Appends-trans a b c (take k text) (take n (drop k text)) p q)

module _ (a b c : Option (List ℕ)) where
  -- what was kept since has begun as before
  pub begun-kept : (text : List ℕ) → HasBegun a b text → Keeps b c → HasBegun a c text
  begun-kept text begun kept = record {
    front = begun.front;
    rest = begun.rest;
    whole = begun.whole;
    written = Appends-kept a b c begun.front begun.written kept;
  }

  -- one text was written, and a front of the next
  pub begun-after : (first text more : List ℕ)
      → Appends a b first
      → HasBegun b c text
      → HasBegun a c (first ++ (text ++ more))
  begun-after first text more done begun = record {
    front = first ++ begun.front;
    rest = begun.rest ++ more;
    whole =
        ap (λ t. first ++ (t ++ more)) begun.whole ∙ ap (λ t. first ++ t) (append_assoc begun.front begun.rest more)
        ∙ sym (append_assoc first begun.front (begun.rest ++ more));
    written = Appends-trans a b c first begun.front done begun.written;
  }

-- a front of a text is one of a longer text
pub begun-longer : (a b : Option (List ℕ)) (text more : List ℕ) → HasBegun a b text → HasBegun a b (text ++ more)
begun-longer a b text more begun = record {
  front = begun.front;
  rest = begun.rest ++ more;
  whole = ap (λ t. t ++ more) begun.whole ∙ append_assoc begun.front begun.rest more;
  written = begun.written;
}

-- a whole text is a front of a longer one
pub begun-whole : (a b : Option (List ℕ)) (text more : List ℕ) → Appends a b text → HasBegun a b (text ++ more)
begun-whole a b text more done = record { front = text; rest = more; whole = refl; written = done }

-- a text that was written has begun
pub begun-all : (a b : Option (List ℕ)) (text : List ℕ) → Appends a b text → HasBegun a b text
begun-all a b text done = record { front = text; rest = []; whole = sym (append-nil text); written = done }

-- one text was written, and a front of the last
pub begun-last : (a b c : Option (List ℕ)) (first text : List ℕ)
    → Appends a b first
    → HasBegun b c text
    → HasBegun a c (first ++ text)
begun-last a b c first text done begun =
    subst (λ t. HasBegun a c (first ++ t)) (append-nil text) (begun-after a b c first text [] done begun)

-- a text was written, and then what was held was kept, or a call failed
pub writes-kept : {A E : Type 0} (a b c : Option (List ℕ)) (r : Result A E) (text : List ℕ)
    → Appends a b text
    → Keeps b c
    → Writes a c r text
writes-kept a b c (Ok x) text done kept = Appends-kept a b c text done kept
writes-kept a b c (Err e) text done kept = begun-kept a b c text (begun-all a b text done) kept

-- a text was written after another
pub writes-after : {A E : Type 0} (a b c : Option (List ℕ)) (r : Result A E) (first text : List ℕ)
    → Appends a b first
    → Writes b c r text
    → Writes a c r (first ++ text)
writes-after a b c (Ok x) first text done more = Appends-trans a b c first text done more
writes-after a b c (Err e) first text done more = begun-last a b c first text done more

-- what an answer tells of a call, it tells of that call after others that did not fail
pub told-after : {W A : Type 0} (Failed : W → Type 0) (old mid new : W) (r : Result A WriteFault)
    → (Failed mid → Failed old)
    → TellsOutput Failed mid new r
    → TellsOutput Failed old new r
told-after Failed old mid new (Ok x) before told = λ h. before (told h)
told-after Failed old mid new (Err write.Write) before told = told
told-after Failed old mid new (Err write.Memory) before told = λ h. before (told h)
