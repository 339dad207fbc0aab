-- The fields of a node, as a tuple of eight numbers, by which a proof tells them apart. So a view may hold notes that speak of
-- a fresh node.
use Rattle.std.specs.Prelude.{◌≡◌, ℕ}
use Rattle.std.specs.Coded.{Coded, code_by, coded×, coded_ℕ}
use Rattle.pc_model.specs.declared.cell.Field.{Field}
use Rattle.pc_model.specs.declared.cell.Field.TheVariants.{Version, Key, Value, Left, Right, Parent, Height, Spare}

abbrev pub Eight : Type 0
Eight = ℕ × (ℕ × (ℕ × (ℕ × (ℕ × (ℕ × (ℕ × ℕ))))))

abbrev pub eight_of : (Field → ℕ) → Eight
eight_of c = (c Version, (c Key, (c Value, (c Left, (c Right, (c Parent, (c Height, c Spare)))))))

abbrev pub fields_of : Eight → Field → ℕ
fields_of e Version = e.0
fields_of e Key = e.1.0
fields_of e Value = e.1.1.0
fields_of e Left = e.1.1.1.0
fields_of e Right = e.1.1.1.1.0
fields_of e Parent = e.1.1.1.1.1.0
fields_of e Height = e.1.1.1.1.1.1.0
fields_of e Spare = e.1.1.1.1.1.1.1

pub same_fields : (c : Field → ℕ) (f : Field) → fields_of (eight_of c) f ≡ c f
same_fields c Version = λ _. c Version
same_fields c Key = λ _. c Key
same_fields c Value = λ _. c Value
same_fields c Left = λ _. c Left
same_fields c Right = λ _. c Right
same_fields c Parent = λ _. c Parent
same_fields c Height = λ _. c Height
same_fields c Spare = λ _. c Spare

abbrev pub fields_code : Coded (Field → ℕ)
fields_code = code_by Eight (coded× coded_ℕ (coded× coded_ℕ (coded× coded_ℕ (coded× coded_ℕ (coded× coded_ℕ (coded× coded_ℕ (coded× coded_ℕ coded_ℕ))))))) eight_of fields_of (λ c. λ i f. same_fields c f i)
