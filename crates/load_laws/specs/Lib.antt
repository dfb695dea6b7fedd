pub mod LoadDeck
