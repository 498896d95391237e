-- The tables that naming and labelling leave have, for each name and each GOTO, what the search found where it stands: each token is set once, since tokens rise
-- along the text. They keep their lengths.
use mathlib.Core.Path.{◌≡◌, refl, ap, ◌∙◌}
use mathlib.Core.List.{List, [], ◌∷◌}
use Prim.Native.Nat.{ℕ, ◌+◌, ◌≤◌, ◌<◌}
use native.Mathlib.Omega.{arith}
use lib.ListN.{get_or, length, length-set}
use lib.Seq.{get_or-set_same, get_or-set_other}
use Rattle.base.specs.Lists.{All}
use Rattle.grammar.specs.Events.{Route, labelled, sent, Event, edge, route, entry, phrase, mark, uses, declares}
use Rattle.grammar.specs.Places.{Place, after, along, Along}
use Rattle.grammar.specs.Texts.{Stands, Text}
use Rattle.grammar.proofs.Texts.{size-along, settles}
use Rattle.grammar.proofs.Uses.{Rise, uses-rise}
use Rattle.scopes.specs.Search.{find, enter}
use Rattle.scopes.specs.Names.{Named, names_in, note_found, use_name, declare_name, declare_names, use_names, name_event}
use Rattle.scopes.specs.Labels.{Labelled, note_label, set_label, label_route, label_event}
use Rattle.scopes.specs.Found.{FoundName, Found, LedRoute, Led}

module _ (kinds keys : List ℕ) where
  -- ── names ──

  module _ (bs : List (List ℕ)) where
    use-length : (ts : List ℕ) (s : Named) → length (use_names keys ts bs s).found ≡ length s.found
    unfolding use_names use_name note_found
    use-length [] s = refl
    use-length (t ∷ ts) s = use-length ts (use_name keys t bs s) ∙ length-set s.found t _

    use-stays : (ts : List ℕ) (s : Named) (i j : ℕ) → Rise ts i j → (u : ℕ) → u < i → get_or (use_names keys ts bs s).found u 0 ≡ get_or s.found u 0
    unfolding use_names use_name note_found
    use-stays [] s i j r u h = refl
    use-stays (t ∷ ts) s i j (l, r) u h = use-stays ts (use_name keys t bs s) (t + 1) j r u (omega arith) ∙ get_or-set_other s.found t u _ 0 (λ q. omega arith)

    use-found : (ts : List ℕ) (s : Named) (i j : ℕ) → Rise ts i j → j ≤ length s.found → (found : List ℕ)
        → ((u : ℕ) → u < j → get_or found u 0 ≡ get_or (use_names keys ts bs s).found u 0) → All (FoundName keys found bs) ts
    unfolding use_names use_name note_found
    use-found [] s i j r w found f = tt
    use-found (t ∷ ts) s i j (l, r) w found f =
        let up = rise-up ts (t + 1) j r in (
          f t (omega arith) ∙ (use-stays ts (use_name keys t bs s) (t + 1) j r t (omega arith) ∙ get_or-set_same s.found t _ 0 (omega arith)),
          use-found ts (use_name keys t bs s) (t + 1) j r (omega (arith, length-set s.found t (find keys (get_or keys t 0) bs))) found f,
        )
      where
        rise-up : (ts : List ℕ) (i j : ℕ) → Rise ts i j → i ≤ j
        rise-up [] i j h = h
        rise-up (t ∷ ts) i j (l, h) = (let r = rise-up ts (t + 1) j h in omega arith)

  pub declare-keeps : (ts : List ℕ) (bs : List (List ℕ)) (s : Named) → (declare_names keys ts bs s).found ≡ s.found
  unfolding declare_names declare_name
  declare-keeps [] bs s = refl
  declare-keeps (t ∷ ts) bs s = declare-keeps ts (enter t bs) (declare_name keys t bs s)

  pub event-length : (e : Event) (p : Place) (s : Named) → length (name_event keys e p s).found ≡ length s.found
  unfolding name_event
  event-length e p s = use-length (names_in (after e p)) (uses e) _ ∙ ap (λ (l : List ℕ). length l) (declare-keeps (declares e) (names_in p) s)

  event-stays : (e : Event) (p : Place) (s : Named) (i : ℕ) (x : Stands kinds e p i) (u : ℕ) → u < i → get_or (name_event keys e p s).found u 0 ≡ get_or s.found u 0
  unfolding name_event
  event-stays e p s i x u h =
      use-stays (names_in (after e p)) (uses e) _ x.from x.to (uses-rise kinds e x.from x.to x.rises x.is) u (omega arith)
      ∙ ap (λ (l : List ℕ). get_or l u 0) (declare-keeps (declares e) (names_in p) s)

  pub found-length : (es : List Event) (p : Place) (s : Named) → length (along (name_event keys) es p s).found ≡ length s.found
  found-length es p s = size-along kinds (name_event keys) (λ x. x.found) event-length event-stays es p s

  event-found : (e : Event) (p : Place) (s : Named) (final : List ℕ) (i : ℕ) (x : Stands kinds e p i) → x.to ≤ length s.found
      → ((u : ℕ) → u < x.to → get_or final u 0 ≡ get_or (name_event keys e p s).found u 0) → Found keys final e p
  unfolding name_event
  event-found e p s final i x w f =
      use-found (names_in (after e p)) (uses e) _ x.from x.to (uses-rise kinds e x.from x.to x.rises x.is)
      (omega (arith, ap (λ (l : List ℕ). length l) (declare-keeps (declares e) (names_in p) s))) final f

  pub finding : (es : List Event) (p : Place) (i j : ℕ) → Text kinds es p i j → (s : Named) → j ≤ length s.found
      → Along (Found keys (along (name_event keys) es p s).found) es p
  finding es p i j h s w = settles kinds (name_event keys) (λ x. x.found) event-length event-stays (Found keys) event-found es p i j h s w

  -- ── labels ──

  label-length : (e : Event) (p : Place) (s : Labelled) → length (label_event keys e p s).goes ≡ length s.goes
  unfolding label_event set_label note_label
  label-length (edge x) p s = refl
  label-length (route (labelled l)) p s = refl
  label-length (route (sent t n)) p s = length-set s.goes n _
  label-length (entry d) p s = refl
  label-length (phrase f) p s = refl
  label-length (mark m) p s = refl

  label-stays : (e : Event) (p : Place) (s : Labelled) (i : ℕ) → Stands kinds e p i → (u : ℕ) → u < i → get_or (label_event keys e p s).goes u 0 ≡ get_or s.goes u 0
  unfolding label_event set_label note_label
  label-stays (edge y) p s i x u h = refl
  label-stays (route (labelled l)) p s i x u h = refl
  label-stays (route (sent t n)) p s i x u h = get_or-set_other s.goes n u _ 0 (λ q. omega arith)
  label-stays (entry d) p s i x u h = refl
  label-stays (phrase f) p s i x u h = refl
  label-stays (mark m) p s i x u h = refl

  pub goes-length : (es : List Event) (p : Place) (s : Labelled) → length (along (label_event keys) es p s).goes ≡ length s.goes
  goes-length es p s = size-along kinds (label_event keys) (λ x. x.goes) label-length label-stays es p s

  led-route : (r : Route) (p : Place) (s : Labelled) (goes : List ℕ) (i : ℕ) (y : Stands kinds (route r) p i) → y.to ≤ length s.goes
      → ((u : ℕ) → u < y.to → get_or goes u 0 ≡ get_or (label_route keys r p s).goes u 0) → LedRoute keys goes r p
  unfolding note_label
  led-route (labelled l) p s goes i y w f = tt
  led-route (sent t n) p s goes i y w f = f n (omega arith) ∙ get_or-set_same s.goes n _ 0 (omega arith)

  led : (e : Event) (p : Place) (s : Labelled) (goes : List ℕ) (i : ℕ) (y : Stands kinds e p i) → y.to ≤ length s.goes
      → ((u : ℕ) → u < y.to → get_or goes u 0 ≡ get_or (label_event keys e p s).goes u 0) → Led keys goes e p
  unfolding label_event
  led (edge x) p s goes i y w f = tt
  led (route r) p s goes i y w f = led-route r p s goes i y w f
  led (entry d) p s goes i y w f = tt
  led (phrase x) p s goes i y w f = tt
  led (mark m) p s goes i y w f = tt

  pub leading : (es : List Event) (p : Place) (i j : ℕ) → Text kinds es p i j → (s : Labelled) → j ≤ length s.goes
      → Along (Led keys (along (label_event keys) es p s).goes) es p
  leading es p i j h s w = settles kinds (label_event keys) (λ x. x.goes) label-length label-stays (Led keys) led es p i j h s w
