-- A look-up by name in the entries of a map, and the same in the list of pages that they stand for.
use Rattle.std.proofs.Common.{◌≡◌, ℕ, suc, ◌+◌, cond, not, List, [], ◌∷◌, length, refl, ap, ◌∙◌}
use Rattle.std.specs.Prelude.{map, position, bytes_eq}
use Rattle.std.specs.List.{prefix_len}
use Rattle.like_requests.specs.Entries.{AreKeyed, NamedPage, listed_pages}
use Rattle.like_requests.specs.Pages.{number_of}

-- as many keys at the front are not `name` as bytes of keys
front : (name : List ℕ) (es : List NamedPage)
    → prefix_len (λ k. not (bytes_eq name k.items)) (map (λ e. e.0) es)
    ≡ prefix_len (λ n. not (bytes_eq name n)) (map (λ e. e.0.items) es)
front name [] = refl
front name (e ∷ es) = ap (λ n. cond (not (bytes_eq name e.0.items)) (1 + n) 0) (front name es)

sizes : (es : List NamedPage) → length (map (λ e. e.0) es) ≡ length (map (λ e. e.0.items) es)
sizes [] = refl
sizes (e ∷ es) = ap (λ n. suc n) (sizes es)

among_bytes : (name : List ℕ) (es : List NamedPage)
    → position (λ k. bytes_eq name k.items) (map (λ e. e.0) es) ≡ position (bytes_eq name) (map (λ e. e.0.items) es)
among_bytes name es = rw (front name es, sizes es) refl

-- the place of a name among the keys is the number of the page with that name
pub position-keys : (name : List ℕ) (es : List NamedPage) → AreKeyed es
    → position (λ k. bytes_eq name k.items) (map (λ e. e.0) es) ≡ number_of (listed_pages es) name
position-keys name es keyed = among_bytes name es ∙ ap (position (bytes_eq name)) keyed
