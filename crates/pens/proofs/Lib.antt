pub mod TipLaws
