-- A number after a start, and what the next number changes of it.
use Rattle.std.proofs.Common.{◌≡◌, ℕ, ◌+◌, ◌<◌, ◌^◌, ◌/◌, ◌%◌, List, [], ◌∷◌, ◌++◌, length, get_or, take, drop, set, sym, ap, ◌∙◌, inl, inr, append_assoc, length-append, length-drop, arith}
use Rattle.std.specs.Prelude.{decimal}
use Rattle.std.proofs.lemmas.Bool.{cases_lt}
use Rattle.std.proofs.lemmas.Fmt.{decimal_digit, decimal_nonempty, decimal_step}
use Rattle.std.proofs.lemmas.List.{drop_at, get_or_at, length-set, length-take-le, set_at, take-append-drop, take_at}
use Rattle.std.specs.List.{refill}
use Rattle.like_replies.specs.RowParts.{RowHead}
use Rattle.like_replies.proofs.rows.Plain.{field_text-decimal}
use Rattle.like_replies.proofs.rows.RowTexts.{number_text}

-- the last digit of a number, which alone changes in the next one unless it is a nine
pub record LastDigit (n : ℕ) : Type 0 where
  pub front : List ℕ
  pub digit : ℕ
  pub is : decimal n ≡ front ++ (48 + digit) ∷ []
  pub next : digit < 9 → decimal (n + 1) ≡ front ++ (49 + digit) ∷ []

pub last_digit : (n : ℕ) → n + 1 < 2 ^ 64 → LastDigit n
last_digit n fits = elim (cases_lt n 10) [
  | inl low ↦ record {
    front = [];
    digit = n;
    is = decimal_digit n low;
    next = λ below. decimal_digit (n + 1) (omega arith)
        ∙ ap (λ d. d ∷ []) (let e : 48 + (n + 1) ≡ 49 + n = omega arith in e);
  }
  | inr high ↦
      let tens : n % 10 < 9 → (n + 1) / 10 ≡ n / 10 = λ below. omega (arith, below) in
      let unit : n % 10 < 9 → 48 + (n + 1) % 10 ≡ 49 + n % 10 = λ below. omega (arith, below) in
      record {
        front = decimal (n / 10);
        digit = n % 10;
        is = decimal_step n high (omega arith);
        next = λ below. decimal_step (n + 1) (omega arith) fits
            ∙ ap (λ t. decimal t ++ (48 + (n + 1) % 10) ∷ []) (tens below)
            ∙ ap (λ d. decimal (n / 10) ++ d ∷ []) (unit below);
      }
]

-- a text has a number from this place on, and there is a next number
pub record EndsIn (text : List ℕ) (place number : ℕ) : Type 0 where
  pub fits : number + 1 < 2 ^ 64
  pub size : length (take place text) ≡ place
  pub within : place < length text
  pub is : text ≡ take place text ++ number_text number

pub ends_in : (text : List ℕ) (place number : ℕ) (head : RowHead)
    → (let own : RowHead = record { start = take place text; number = number } in own) ≡ head
    → head.number + 1 < 2 ^ 64
    → drop place text ≡ number_text number
    → EndsIn text place number
ends_in text place number head own fits tail =
    let same : number ≡ head.number = ap (λ (h : RowHead). h.number) own in
    let low : number < 2 ^ 64 = omega (arith, same, fits) in
    let some : 0 < length (number_text number) = rw (field_text-decimal number low) (decimal_nonempty number low) in
    let below : place < length text = omega (arith, some, length-drop place text, ap length tail) in
    record {
      fits = omega (arith, same, fits);
      size = length-take-le place text (omega (arith, below));
      within = below;
      is = sym (take-append-drop place text) ∙ ap (λ t. take place text ++ t) tail;
    }

-- the last byte of a text, and the text with another one in its place
last_byte : (start front : List ℕ) (byte more last d : ℕ) → last + 1 ≡ length (start ++ (front ++ byte ∷ []))
    → (get_or (start ++ (front ++ byte ∷ [])) last d ≡ byte)
    × (set (start ++ (front ++ byte ∷ [])) last more ≡ start ++ (front ++ more ∷ []))
last_byte start front byte more last d size =
    let same : start ++ (front ++ byte ∷ []) ≡ (start ++ front) ++ byte ∷ [] =
    sym (append_assoc start front (byte ∷ [])) in
    let long : length (start ++ front) ≡ last =
    omega (arith, size, ap length same, length-append (start ++ front) (byte ∷ [])) in
    rw same (
      get_or_at (start ++ front) byte [] d last long,
      set_at (start ++ front) byte [] more last long ∙ append_assoc start front (more ∷ []),
    )

-- a text of which one byte was changed in place is as long as before
pub refill_set : (text : List ℕ) (place byte : ℕ) → refill (length text) text (set text place byte) ≡ set text place byte
refill_set text place byte =
    take_at (set text place byte) (drop (length (set text place byte)) text) (length text) (length-set text place byte)

-- raising a last digit below nine gives the next number after the same start
pub raised : (text : List ℕ) (place number last byte : ℕ)
    → EndsIn text place number
    → last + 1 ≡ length text
    → byte ≡ get_or text last 0
    → byte < 57
    → (take place (set text last (byte + 1)) ≡ take place text)
    × (drop place (set text last (byte + 1)) ≡ number_text (number + 1))
raised text place number last byte ends size is low =
    let d = last_digit number ends.fits in
    let start : List ℕ = take place text in
    let same : text ≡ start ++ (d.front ++ (48 + d.digit) ∷ []) =
    ends.is ∙ ap (λ t. start ++ t) (field_text-decimal number (omega (arith, ends.fits)) ∙ d.is) in
    let parts = last_byte start d.front (48 + d.digit) (byte + 1) last 0 (size ∙ ap length same) in
    let digit : byte ≡ 48 + d.digit = is ∙ ap (λ t. get_or t last 0) same ∙ parts.0 in
    let more : byte + 1 ≡ 49 + d.digit = omega (arith, digit) in
    let next : number_text (number + 1) ≡ d.front ++ (byte + 1) ∷ [] =
    field_text-decimal (number + 1) ends.fits ∙ d.next (omega (arith, digit, low))
    ∙ ap (λ b. d.front ++ b ∷ []) (sym more) in
    let now : set text last (byte + 1) ≡ start ++ number_text (number + 1) =
    ap (λ t. set t last (byte + 1)) same ∙ parts.1 ∙ ap (λ t. start ++ t) (sym next) in
    rw now (
      take_at start (number_text (number + 1)) place ends.size,
      drop_at start (number_text (number + 1)) place ends.size,
    )

-- writing the next number after the start does so too
pub renewed : (text now : List ℕ) (place number : ℕ)
    → EndsIn text place number
    → now ≡ take place text ++ decimal (number + 1)
    → (take place now ≡ take place text) × (drop place now ≡ number_text (number + 1))
renewed text now place number ends is =
    let start : List ℕ = take place text in
    rw is (
      take_at start (decimal (number + 1)) place ends.size,
      drop_at start (decimal (number + 1)) place ends.size ∙ sym (field_text-decimal (number + 1) ends.fits),
    )
