-- A promise beside the equations that it follows from: how the proof of a contract with a further `ensures` ends.

pub also : {A B : Type 0} → (A → B) → A → A × B
also f a = (a, f a)

pub also₂ : {A B C : Type 0} → (A → B → C) → A × B → A × (B × C)
also₂ f e = (e.0, (e.1, f e.0 e.1))
