pub mod HexTexts
